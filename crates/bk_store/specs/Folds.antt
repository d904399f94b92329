-- The open folds of a store, against those of the history.
use Rattle.std.specs.Prelude.{◌≡◌, ℕ, ◌≤◌, List, [], ◌∷◌, map, filter, Option, None, Some}
use Rattle.bk_base.specs.declared.histories.OpenFold.{OpenFold}
use Rattle.bk_base.specs.declared.writes.Version.{Version}
use Rattle.bk_base.specs.declared.writes.Write.{Write}
use Rattle.bk_laws.specs.History.{is_slot}
use Rattle.bk_laws.specs.Log.{cut_at, last_seq, winner}
use Rattle.bk_image.specs.Readings.{Reading}
use Rattle.bk_keydir.specs.declared.slots.Slot.{Slot}
use Rattle.bk_keydir.specs.Slots.{at_epoch, slot_at}
use Rattle.bk_keydir.specs.Folds.{has_listed}
use Rattle.bk_keydir.specs.Keydir.{Entry, versions_of}
use Rattle.bk_keydir.specs.Keydir.{Shown as KeydirShown}
use Rattle.bk_store.specs.Versions.{KeyStands}

-- the keys of a listing
abbrev pub keys_in : List (List ℕ × Version) → List (List ℕ)
keys_in pairs = map (λ (p : List ℕ × Version). p.0) pairs

-- A slot holds this fold. It sees of each key what the log said as the fold was opened, and it has
-- listed the live keys before its cursor.
pub record FoldStands (ttl : ℕ) (r : Reading) (entries : List Entry) (log : List Write) (s : Slot) (f : OpenFold)
    : Type 0 where
  pub caller : f.caller ≡ s.who
  pub epoch : f.epoch ≡ s.epoch
  pub now : f.now ≡ s.now
  pub given_out : s.epoch.0 ≤ last_seq log
  pub sees : (key : List ℕ) → KeyStands r (at_epoch s.epoch.0 (versions_of key entries)) (winner (cut_at s.epoch.0 log) key)
  pub listed : f.listed ≡ keys_in (has_listed ttl s entries)

-- of the history's folds exactly one has the slot of an open fold, and none that of a free slot
abbrev pub SlotStands : ℕ → Reading → List Entry → List Write → Option Slot → List OpenFold → Type 0
SlotStands ttl r entries log None [] = Unit {0}
SlotStands ttl r entries log None (f ∷ fs) = ⊥
SlotStands ttl r entries log (Some s) [] = ⊥
SlotStands ttl r entries log (Some s) (f ∷ []) = FoldStands ttl r entries log s f
SlotStands ttl r entries log (Some s) (f ∷ g ∷ fs) = ⊥

abbrev pub FoldsStand : ℕ → Reading → KeydirShown → List Write → List OpenFold → Type 0
FoldsStand ttl r keys log folds =
    (n : ℕ) → SlotStands ttl r keys.entries log (slot_at keys.slots n) (filter (is_slot n) folds)
