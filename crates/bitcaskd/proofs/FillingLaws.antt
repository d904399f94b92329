-- From a fill of a store that was opened to the whole run.
use Rattle.std.proofs.Common.{◌≡◌, List, [], ◌∷◌, ◌++◌, ℕ, Bool, refl, sym, subst, IsTrue}
use Rattle.bk_base.specs.declared.statuses.Status.{Status}
use Rattle.bk_base.specs.declared.statuses.Status.TheVariants.{Disk, Sink}
use Rattle.bk_base.specs.declared.writes.Write.{Write}
use Rattle.bk_exchange.specs.Exchanges.{steps_of}
use Rattle.bk_fill.specs.Filling.{IsFilledFor, sides_of, telling}
use Rattle.bk_fill.specs.declared.ends.FillEnd.{FillEnd}
use Rattle.bk_fill.specs.declared.ends.FillEnd.TheVariants.{Done as fill_done_end, Full as fill_full_end, Disk as fill_disk_end, Sink as fill_sink_end, Memory as fill_memory_end}
use Rattle.bk_image.specs.SoundDirectory.{IsSoundDisk}
use Rattle.bk_store.specs.Events.{KeepsPast}
use Rattle.bk_store.specs.Shown.{Shown}
use Rattle.bitcaskd.specs.Commands.{MayEnd}
use Rattle.bitcaskd.specs.Filling.{IsFillRun, of_fill}
use Rattle.bitcaskd.specs.Opening.{Opens}
use Rattle.bitcaskd.specs.Run.{Outside, Telling}
use Rattle.bitcaskd.specs.declared.command.Command.TheVariants.{Open}
use Rattle.bitcaskd.specs.declared.command.Work.TheVariants.{Fill}
use Rattle.bitcaskd.proofs.RunLaws.{follows_with, opening_with, with_disk}
use Rattle.bitcaskd.proofs.StoreLaws.{left_with, works_on}

module _ (tells : Telling) (count : ℕ) (old new : Outside) (v u : Shown) (end : FillEnd)
    (filled : (known : Bool) → (IsTrue known → IsTrue tells.disk) → IsFilledFor known (telling tells.sink tells.clock) count
    (sides_of v old.written old.moments) (sides_of u new.written new.moments) end)
    (past : IsTrue tells.disk → KeepsPast v.files.told u.files.told)
    (whole_same : new.whole ≡ old.whole) (taken_same : new.taken ≡ old.taken) where
  pub fills : (log : List Write) (whole : Bool) → Opens tells.disk old.disk v
      → (IsTrue whole → IsTrue tells.disk × IsSoundDisk old.disk.told log)
      → IsFillRun tells count old (with_disk u new) (of_fill end) log whole
  fills log whole opens known =
      let o = opening_with whole log v in
      let sub : IsTrue whole → IsTrue tells.disk = λ t. (known t).0 in
      let done = filled whole sub o [] [] (follows_with tells.disk whole old.disk log v opens known) in
      record {
        opening = o;
        opened = v;
        left = u;
        works = works_on tells old new v u log whole opens known past whole_same taken_same;
        end = end;
        is_status = refl;
        filled = done;
        leaves = λ t. left_with u o
            (steps_of ((done.worked.puts ++ done.worked.rest) ++ done.worked.sync ∷ [])) done.worked.made.tried
            (done.worked.made.follows.stands t);
      }

-- ---- the status

pub fill_disk : (end : FillEnd) → of_fill end ≡ Disk → end ≡ fill_disk_end
fill_disk fill_disk_end is = refl
fill_disk end is = absurd (cc is)

pub fill_sink : (end : FillEnd) → of_fill end ≡ Sink → end ≡ fill_sink_end
fill_sink fill_sink_end is = refl
fill_sink end is = absurd (cc is)

-- a run of `fill` ends so
pub fill_ends : (end : FillEnd) (status : Status) (count : ℕ) → status ≡ of_fill end → MayEnd (Open (Fill count)) status
fill_ends end status count is = subst (MayEnd (Open (Fill count))) (sym is) (go end) where
  go : (e : FillEnd) → MayEnd (Open (Fill count)) (of_fill e)
  go fill_done_end = tt
  go fill_full_end = tt
  go fill_disk_end = tt
  go fill_sink_end = tt
  go fill_memory_end = tt
