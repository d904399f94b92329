-- What each call on the files keeps of the moments so far.
use Rattle.std.proofs.Common.{◌≡◌, ◌∙◌, ℕ, ◌≤◌, ◌⊎◌, List, [], ◌∷◌, length, get_or, Bool, true, false, Option, Some, None, refl, sym, ap, arith, inl, inr}
use Rattle.std.specs.Prelude.{IsTrue}
use Rattle.std.proofs.lemmas.List.{get_or_past, get_or_append_left, get_or_default, get_or_push}
use Rattle.std.proofs.lemmas.Bool.{cases_lt}
use Rattle.bk_disk.specs.Told.{Front, Table, Told, clock}
use Rattle.bk_disk.specs.Calls.{Passes}
use Rattle.bk_disk.specs.Crashes.{fronts_at}
use Rattle.bk_disk.proofs.Moments.{later}
use Rattle.bk_files.specs.declared.catalog.Active.{Active}
use Rattle.bk_files.specs.Catalog.{Known}
use Rattle.bk_files.specs.Files.{HalfRepaired, HalfRepairedOf, HalfRolledOf, IsConsistent, Repaired, RepairedOf, RolledOf, Seen, SettledOf, Synchronized}
use Rattle.bk_store.specs.Appends.{CountsAlone, FilesGo, IsRolledFor}
use Rattle.bk_store.specs.Events.{KeepsPast}

pub past_same : (t u : Told) → u ≡ t → KeepsPast t u
past_same t u is = rw is (record { later = omega arith; same = λ k low. refl })

pub past_then : (t m u : Told) → KeepsPast t m → KeepsPast m u → KeepsPast t u
past_then t m u a b = record {
  later = omega (arith, a.later, b.later);
  same = λ k low. b.same k (omega (arith, low, a.later)) ∙ a.same k low;
}

-- a change adds at most one moment, behind the others
pub past_passes : (t u : Told) → Passes t u → KeepsPast t u
past_passes t u passes = record { later = later t u passes; same = λ k low. go k low passes } where
  go : (k : ℕ) → k ≤ clock t → Passes t u → fronts_at u k ≡ fronts_at t k
  go k low (inl same) =
      ap (λ (f : Table Front). get_or u.past k f) same.1 ∙ ap (λ (p : List (Table Front)). get_or p k t.fronts) same.0
  go k low (inr more) =
      elim (cases_lt k (length t.past)) [
        | inl lt ↦ ap (λ (p : List (Table Front)). get_or p k u.fronts) more
            ∙ get_or_append_left t.past (t.fronts ∷ []) u.fronts k lt
            ∙ sym (get_or_default t.past k t.fronts u.fronts lt)
        | inr ge ↦
            let is : length t.past ≡ k = omega (arith, ge, low) in
            ap (λ (p : List (Table Front)). get_or p k u.fronts) more
            ∙ get_or_push t.past t.fronts u.fronts k is
            ∙ sym (get_or_past t.past k t.fronts ge)
      ]

pub past_repaired : (a : Option Active) (t u : Told) → RepairedOf a t u → KeepsPast t u
past_repaired None t u is = past_same t u is
past_repaired (Some a) t u (inl same) = past_same t u same.1
past_repaired (Some a) t u (inr (torn, m, cut, synced)) =
    past_then t m u (past_passes t m cut.passes) (past_passes m u synced.passes)

pub past_half_repaired : (a : Option Active) (t u : Told) → HalfRepairedOf a t u → KeepsPast t u
past_half_repaired None t u is = past_same t u is
past_half_repaired (Some a) t u (inl same) = past_same t u same
past_half_repaired (Some a) t u (inr cut) = past_passes t u cut.passes

pub past_settled : (a : Option Active) (t u : Told) → SettledOf a t u → KeepsPast t u
past_settled None t u is = past_same t u is
past_settled (Some a) t u synced = past_passes t u synced.passes

pub past_rolled : (c : Known) (t u : Told) → RolledOf c t u → KeepsPast t u
past_rolled c t u (m, settled, made) = past_then t m u (past_settled c.active t m settled) (past_passes m u made.passes)

pub past_half_rolled : (c : Known) (t u : Told) → HalfRolledOf c t u → KeepsPast t u
past_half_rolled c t u (inl same) = past_same t u same
past_half_rolled c t u (inr (inl settled)) = past_settled c.active t u settled
past_half_rolled c t u (inr (inr rolled)) = past_rolled c t u rolled

-- a new file was made, or nothing was done
pub past_rolled_for : (tells rolled : Bool) (s u : Seen) → IsTrue tells → IsRolledFor tells rolled s u → KeepsPast s.told u.told
past_rolled_for tells true s u tell is = past_rolled s.catalog s.told u.told (is.1 tell)
past_rolled_for tells false s u tell is = past_same s.told u.told (ap (λ (x : Seen). x.told) is)

-- ---- over every disk

pub goes_then : (tells : Bool) (s m u : Seen) → FilesGo tells s m → FilesGo tells m u → FilesGo tells s u
goes_then tells s m u a b = record {
  consistent = b.consistent;
  past = λ tell. past_then s.told m.told u.told (a.past tell) (b.past tell);
  later = omega (arith, a.later, b.later);
  views = b.views ∙ a.views;
  outs = b.outs ∙ a.outs;
  limit = b.limit ∙ a.limit;
}

pub goes_passes : (tells : Bool) (s u : Seen) → (IsTrue tells → IsConsistent u) → (IsTrue tells → Passes s.told u.told)
    → s.faults ≤ u.faults → u.fallible_views ≡ s.fallible_views → u.fallible_outs ≡ s.fallible_outs
    → u.catalog.max_file ≡ s.catalog.max_file → FilesGo tells s u
goes_passes tells s u consistent passes later views outs limit = record {
  consistent = consistent;
  past = λ tell. past_passes s.told u.told (passes tell);
  later = later;
  views = views;
  outs = outs;
  limit = limit;
}

pub goes_still : (tells : Bool) (s u : Seen) → (IsTrue tells → IsConsistent u) → (IsTrue tells → u.told ≡ s.told)
    → s.faults ≤ u.faults → u.fallible_views ≡ s.fallible_views → u.fallible_outs ≡ s.fallible_outs
    → u.catalog ≡ s.catalog → FilesGo tells s u
goes_still tells s u consistent told later views outs catalog = record {
  consistent = consistent;
  past = λ tell. past_same s.told u.told (told tell);
  later = later;
  views = views;
  outs = outs;
  limit = ap (λ (k : Known). k.max_file) catalog;
}

pub goes_repaired : (tells : Bool) (s u : Seen) → Repaired tells s u → (IsTrue tells → IsConsistent u)
    → s.faults ≤ u.faults → u.fallible_views ≡ s.fallible_views → u.fallible_outs ≡ s.fallible_outs → FilesGo tells s u
goes_repaired tells s u repaired consistent later views outs = record {
  consistent = consistent;
  past = λ tell. past_repaired s.catalog.active s.told u.told (repaired.told tell);
  later = later;
  views = views;
  outs = outs;
  limit = ap (λ (k : Known). k.max_file) repaired.catalog;
}

-- the counts alone changed
pub goes_counted : (tells : Bool) (s u : Seen) → (IsTrue tells → IsConsistent s) → CountsAlone tells s u → FilesGo tells s u
goes_counted tells s u consistent alone = record {
  consistent = λ tell. alone.consistent tell (consistent tell);
  past = λ tell. past_same s.told u.told (ap (λ (x : Seen). x.told) alone.same);
  later = omega (arith, ap (λ (x : Seen). x.faults) alone.same);
  views = ap (λ (x : Seen). x.fallible_views) alone.same;
  outs = ap (λ (x : Seen). x.fallible_outs) alone.same;
  limit = ap (λ (x : Seen). x.catalog.max_file) alone.same;
}

-- ---- a sync

-- whether it was refused or not, the limit stays
pub limit_half : (tells : Bool) (s u : Seen) → HalfRepaired tells s u ⊎ Repaired tells s u
    → u.catalog.max_file ≡ s.catalog.max_file
limit_half tells s u (inl half) = ap (λ (k : Known). k.max_file) half.catalog
limit_half tells s u (inr repaired) = ap (λ (k : Known). k.max_file) repaired.catalog

pub past_synchronized : (tells : Bool) (s u : Seen) → IsTrue tells → Synchronized tells s u → KeepsPast s.told u.told
past_synchronized tells s u tell sync = let (m, repaired, settled) = sync.told tell in
    past_then s.told m u.told (past_repaired s.catalog.active s.told m repaired)
    (past_settled s.catalog.active m u.told settled)

pub past_not_synchronized : (tells : Bool) (s u : Seen) → IsTrue tells → HalfRepaired tells s u ⊎ Repaired tells s u
    → KeepsPast s.told u.told
past_not_synchronized tells s u tell (inl half) = past_half_repaired s.catalog.active s.told u.told (half.told tell)
past_not_synchronized tells s u tell (inr repaired) = past_repaired s.catalog.active s.told u.told (repaired.told tell)
