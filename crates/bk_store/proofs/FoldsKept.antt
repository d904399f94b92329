-- The open folds stay as they are while the files know no less and keys are put.
use Rattle.std.proofs.Common.{◌≡◌, ℕ, ◌<◌, ◌≤◌, false, List, [], ◌∷◌, ◌++◌, Option, Some, None, refl, sym, ap, subst, ◌∙◌, arith}
use Rattle.std.specs.Prelude.{filter, nat_le}
use Rattle.std.proofs.lemmas.Bool.Decides.{nat_tests}
use Rattle.std.proofs.lemmas.List.{append-nil}
use Rattle.std.proofs.lemmas.List.Elements.{filter-append}
use Rattle.bk_base.specs.declared.histories.OpenFold.{OpenFold}
use Rattle.bk_base.specs.declared.writes.Write.{Write}
use Rattle.bk_laws.specs.History.{is_slot}
use Rattle.bk_laws.specs.Log.{cut_at, last_seq, winner}
use Rattle.bk_image.specs.Readings.{Reading}
use Rattle.bk_image.proofs.Logs.{seq_after-append}
use Rattle.bk_keydir.specs.declared.slots.Slot.{Slot}
use Rattle.bk_keydir.specs.Folds.{KeepsFolds, SameTo}
use Rattle.bk_keydir.specs.Keydir.{Entry, versions_of}
use Rattle.bk_keydir.specs.Keydir.{Shown as KeydirShown}
use Rattle.bk_keydir.specs.Slots.{at_epoch, slot_at}
use Rattle.bk_store.specs.Appends.{Extends}
use Rattle.bk_store.specs.Folds.{FoldStands, FoldsStand, SlotStands, keys_in}
use Rattle.bk_store.specs.Versions.{KeyStands}
use Rattle.bk_store.proofs.KeptVersions.{key_stays}

-- the log that a fold lists is the same, whatever is written later
pub cut_still : (epoch : ℕ) (log : List Write) (w : Write) → epoch < w.seq.0 → cut_at epoch (log ++ w ∷ []) ≡ cut_at epoch log
cut_still epoch log w above =
    let later : nat_le w.seq.0 epoch ≡ false = grind (arith, nat_tests, above) in
    filter-append (λ (x : Write). nat_le x.seq.0 epoch) log (w ∷ [])
    ∙ rw later (append-nil (cut_at epoch log))

-- one fold, where it sees and has listed the same, and the log that it lists is the same
fold_stays : (ttl : ℕ) (r t : Reading) (es fs : List Entry) (log later : List Write) (s : Slot) (f : OpenFold)
    → Extends r t → SameTo s es fs → last_seq log ≤ last_seq later → cut_at s.epoch.0 later ≡ cut_at s.epoch.0 log
    → FoldStands ttl r es log s f → FoldStands ttl t fs later s f
fold_stays ttl r t es fs log later s f more same high cut h = record {
  caller = h.caller;
  epoch = h.epoch;
  now = h.now;
  given_out = omega (arith, high, h.given_out);
  sees = λ key.
      subst (λ (o : Option Write). KeyStands t (at_epoch s.epoch.0 (versions_of key fs)) o)
      (ap (λ (l : List Write). winner l key) (sym cut))
      (subst (λ o. KeyStands t o (winner (cut_at s.epoch.0 log) key)) (sym (same.sees key))
      (key_stays r t (at_epoch s.epoch.0 (versions_of key es)) (winner (cut_at s.epoch.0 log) key) more (h.sees key)));
  listed = h.listed ∙ ap keys_in (sym (same.listed ttl));
}

slot_stays : (ttl : ℕ) (r t : Reading) (es fs : List Entry) (log later : List Write) (o : Option Slot) (folds : List OpenFold)
    → Extends r t → ((s : Slot) → o ≡ Some s → SameTo s es fs) → last_seq log ≤ last_seq later
    → ((s : Slot) → s.epoch.0 ≤ last_seq log → cut_at s.epoch.0 later ≡ cut_at s.epoch.0 log)
    → SlotStands ttl r es log o folds → SlotStands ttl t fs later o folds
slot_stays ttl r t es fs log later None [] more same high cut h = h
slot_stays ttl r t es fs log later None (f ∷ gs) more same high cut h = h
slot_stays ttl r t es fs log later (Some s) [] more same high cut h = h
slot_stays ttl r t es fs log later (Some s) (f ∷ []) more same high cut h =
    fold_stays ttl r t es fs log later s f more (same s refl) high (cut s h.given_out) h
slot_stays ttl r t es fs log later (Some s) (f ∷ g ∷ gs) more same high cut h = h

-- all folds
pub folds_stay : (ttl : ℕ) (r t : Reading) (keys now : KeydirShown) (log later : List Write) (folds : List OpenFold)
    → Extends r t → KeepsFolds keys now → last_seq log ≤ last_seq later
    → ((s : Slot) → s.epoch.0 ≤ last_seq log → cut_at s.epoch.0 later ≡ cut_at s.epoch.0 log)
    → FoldsStand ttl r keys log folds → FoldsStand ttl t now later folds
folds_stay ttl r t keys now log later folds more keeps high cut h n =
    subst (λ (o : Option Slot). SlotStands ttl t now.entries later o (filter (is_slot n) folds))
    (ap (λ slots. slot_at slots n) (sym keeps.slots))
    (slot_stays ttl r t keys.entries now.entries log later (slot_at keys.slots n) (filter (is_slot n) folds) more
    (λ s is. keeps.same s (n, is)) high cut (h n))

-- after a write
pub folds_put : (ttl : ℕ) (r t : Reading) (keys now : KeydirShown) (log : List Write) (folds : List OpenFold) (w : Write)
    → Extends r t → KeepsFolds keys now → last_seq log < w.seq.0
    → FoldsStand ttl r keys log folds → FoldsStand ttl t now (log ++ w ∷ []) folds
folds_put ttl r t keys now log folds w more keeps newer h =
    folds_stay ttl r t keys now log (log ++ w ∷ []) folds more keeps
    (omega (arith, newer, seq_after-append 0 log (w ∷ [])))
    (λ s given_out. cut_still s.epoch.0 log w (omega (arith, newer, given_out))) h

-- nothing is written, and the keydir is the same
pub folds_still : (ttl : ℕ) (r t : Reading) (keys : KeydirShown) (log : List Write) (folds : List OpenFold) → Extends r t
    → FoldsStand ttl r keys log folds → FoldsStand ttl t keys log folds
folds_still ttl r t keys log folds more h =
    folds_stay ttl r t keys keys log log folds more
    (record { slots = refl; same = λ s is_open. record { sees = λ key. refl; still = λ ttl. refl; listed = λ ttl. refl } })
    (omega arith) (λ s given_out. refl) h
