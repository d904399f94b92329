-- What is known of a store that was opened and worked on.
use Rattle.std.proofs.Common.{◌≡◌, List, Bool, refl, sym, subst, inr, IsTrue}
use Rattle.bk_base.specs.declared.histories.Opening.{Opening}
use Rattle.bk_base.specs.declared.histories.Step.{Step}
use Rattle.bk_base.specs.declared.writes.Write.{Write}
use Rattle.bk_image.proofs.HoldsCrashes.{holds_now, holds_prefix}
use Rattle.bk_image.specs.SoundDirectory.{IsSoundDisk}
use Rattle.bk_store.specs.Events.{KeepsPast}
use Rattle.bk_store.specs.Shown.{Shown}
use Rattle.bk_store.specs.Standing.{StandsFor}
use Rattle.bitcaskd.specs.Opening.{Opens}
use Rattle.bitcaskd.specs.Run.{IsLeftWith, Outside, Telling}
use Rattle.bitcaskd.specs.Stores.{WorksOn}
use Rattle.bitcaskd.proofs.OpeningLaws.{opens_at}
use Rattle.bitcaskd.proofs.RunLaws.{opened_by, opening_with, with_disk}

pub left_with : (u : Shown) (o : Opening) (h : List Step) (tried : List Write) → StandsFor u o h tried
    → IsLeftWith u.files.told o h tried
left_with u o h tried stands = record {
  left = tried;
  is_left = inr refl;
  image = holds_now stands.content.disk.holds;
  crash = holds_prefix stands.content.disk.holds;
}

module _ (tells : Telling) (old new : Outside) (v u : Shown) (log : List Write) (whole : Bool)
    (opens : Opens tells.disk old.disk v) (known : IsTrue whole → IsTrue tells.disk × IsSoundDisk old.disk.told log)
    (past : IsTrue tells.disk → KeepsPast v.files.told u.files.told) where
  pub works_on : new.whole ≡ old.whole → new.taken ≡ old.taken
      → WorksOn tells old (with_disk u new) log whole (opening_with whole log v) v u
  works_on whole_same taken_same =
      let o = opening_with whole log v in
      let is_opened = opened_by tells old v log whole opens in
      record {
        is_opened = is_opened;
        opens = λ t. opens_at old.disk.told v.files.told u.files.told o.log (opens.came.goes (known t).0)
            (subst (λ (l : List Write). IsSoundDisk old.disk.told l) (sym (is_opened.log t)) (known t).1) (past (known t).0);
        is_left = refl;
        source = whole_same;
        taken = taken_same;
      }
