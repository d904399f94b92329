-- A version with the next seq may be put, and then one with the seq behind it.
use Rattle.std.proofs.Common.{◌≡◌, ℕ, ◌+◌, List, [], ◌∷◌, Option, ap, ◌∙◌, subst, sym, arith, inl, inr}
use Rattle.std.specs.Str.{bytes_eq}
use Rattle.std.proofs.lemmas.Bool.{cases_Bool}
use Rattle.bk_base.specs.declared.writes.Version.{Version}
use Rattle.bk_keydir.specs.declared.slots.Slot.{Slot}
use Rattle.bk_keydir.specs.Folds.{KeepsFolds}
use Rattle.bk_keydir.specs.Keydir.{Entry, IsNewer, IsNewerThan, Shown, versions_of, with_version}
use Rattle.bk_keydir.specs.Slots.{has_open}
use Rattle.bk_keydir.proofs.FoldLemmas.{none_open}
use Rattle.bench_keydir.specs.Puts.{AreBelow, TakesSeq}

newer_of : (n : ℕ) (key : List ℕ) (es : List Entry) → AreBelow n es → IsNewerThan n (versions_of key es)
newer_of n key [] h = tt
newer_of n key (e ∷ es) h =
    elim (cases_Bool (bytes_eq key e.0)) [
      | inl p ↦ rw p h.0
      | inr p ↦ rw p (newer_of n key es h.1)
    ]

pub is_newer : (n : ℕ) (key : List ℕ) (d : Shown) → TakesSeq n d → IsNewer n key d
is_newer n key d h = record {
  newest = newer_of n key d.entries h.below;
  epochs = λ s is_open. absurd (none_open d.slots s h.closed is_open);
}

newer_more : (n : ℕ) (vs : List Version) → IsNewerThan n vs → IsNewerThan (n + 1) vs
newer_more n [] h = tt
newer_more n (v ∷ vs) h = omega (arith, h)

more : (n : ℕ) (es : List Entry) → AreBelow n es → AreBelow (n + 1) es
more n [] h = tt
more n (e ∷ es) h = (newer_more n e.1 h.0, more n es h.1)

below_put : (n : ℕ) (slots : List (Option Slot)) (key : List ℕ) (v : Version) (es : List Entry) → v.seq.0 ≡ n
    → AreBelow n es → AreBelow (n + 1) (with_version slots key v es)
below_put n slots key v [] is h = (omega (arith, is), tt)
below_put n slots key v (e ∷ es) is h =
    elim (cases_Bool (bytes_eq key e.0)) [
      | inl p ↦ rw p (omega (arith, is), more n es h.1)
      | inr p ↦ rw p (newer_more n e.1 h.0, below_put n slots key v es is h.1)
    ]

-- Room is made.
pub takes_ready : (n : ℕ) (c d : Shown) → d ≡ record c { spare = d.spare; chain = d.chain } → TakesSeq n c → TakesSeq n d
takes_ready n c d same h = record {
  closed = ap (λ (x : Shown). has_open x.slots) same ∙ h.closed;
  below = subst (λ es. AreBelow n es) (sym (ap (λ (x : Shown). x.entries) same)) h.below;
}

-- A version is put.
pub takes_next : (n : ℕ) (key : List ℕ) (v : Version) (c d : Shown) → v.seq.0 ≡ n → KeepsFolds c d
    → d.entries ≡ with_version c.slots key v c.entries → TakesSeq n c → TakesSeq (n + 1) d
takes_next n key v c d is folds entries h = record {
  closed = ap has_open folds.slots ∙ h.closed;
  below = subst (λ es. AreBelow (n + 1) es) (sym entries) (below_put n c.slots key v c.entries is h.below);
}
