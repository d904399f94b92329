-- Each name still stands once after a call.
use Rattle.std.proofs.Common.{◌≡◌, ℕ, Bool, IsTrue, List, sym, subst}
use Rattle.bk_base.specs.declared.names.Name.{Name}
use Rattle.bk_disk.specs.Told.{Told, IsOneThere}
use Rattle.bk_disk.specs.Calls.{Appended, Synced, Cut, Made, Removed, Renamed, Returned, viewed}
use Rattle.bk_disk.proofs.Files.{well_appended, well_synced, well_cut, well_made, well_removed, well_renamed, well_returned}
use Rattle.bk_disk.specs.Well.{is_well}
use Rattle.bk_disk.proofs.Unique.{from_test, to_test}

pub still_appended : (n : Name) (count : ℕ) (piece : List ℕ) (old new : Told)
    → Appended n count piece old new → IsTrue (is_well old) → IsTrue (is_well new)
still_appended n count piece old new b w = to_test new (well_appended n count piece old new b (from_test old w))

pub still_synced : (n : Name) (old new : Told) → Synced n old new → IsTrue (is_well old) → IsTrue (is_well new)
still_synced n old new b w = to_test new (well_synced n old new b (from_test old w))

pub still_cut : (n : Name) (len : ℕ) (old new : Told) → Cut n len old new → IsTrue (is_well old) → IsTrue (is_well new)
still_cut n len old new b w = to_test new (well_cut n len old new b (from_test old w))

pub still_made : (n : Name) (lent : Bool) (old new : Told) → Made n lent old new
    → IsTrue (is_well old) → IsTrue (is_well new)
still_made n lent old new b w = to_test new (well_made n lent old new b (from_test old w))

pub still_removed : (n : Name) (old new : Told) → Removed n old new → IsTrue (is_well old) → IsTrue (is_well new)
still_removed n old new b w = to_test new (well_removed n old new b (from_test old w))

pub still_renamed : (from to : Name) (old new : Told) → IsOneThere from to old.image
    → Renamed from to old new → IsTrue (is_well old) → IsTrue (is_well new)
still_renamed from to old new one b w = to_test new (well_renamed from to old new one b (from_test old w))

pub still_returned : (n : Name) (bytes : List ℕ) (old new : Told) → Returned n bytes old new
    → IsTrue (is_well old) → IsTrue (is_well new)
still_returned n bytes old new b w = to_test new (well_returned n bytes old new b (from_test old w))

pub still_viewed : (made : Bool) (n : Name) (from size : ℕ) (old new : Told)
    → new ≡ viewed made n from size old → IsTrue (is_well old) → IsTrue (is_well new)
still_viewed made n from size old new is w = subst (λ t. IsTrue (is_well t)) (sym is) w

pub still_same : (old new : Told) → new ≡ old → IsTrue (is_well old) → IsTrue (is_well new)
still_same old new is w = subst (λ t. IsTrue (is_well t)) (sym is) w
