-- A call that was refused changed nothing.
use Rattle.std.proofs.Common.{◌≡◌, ◌∙◌, ℕ, IsTrue, Bool, true, false, cond, List, [], ◌∷◌, ◌++◌, refl, ap, sym, subst, inl, inr}
use Rattle.std.specs.Option.{is_some}
use Rattle.std.proofs.lemmas.Bool.{cases_Bool}
use Rattle.bk_base.specs.declared.names.Name.{Name}
use Rattle.bk_disk.specs.Told.{Table, Told, at, names, with_name, IsOnce, IsWell}
use Rattle.bk_disk.proofs.Tables.{has, is_some-at, names-changed, names-with_name, IsOnce-append}
use Rattle.bk_disk.proofs.Unique.{from_test, to_test}
use Rattle.std.specs.Prelude.{Result, Ok, Err, OnOk, OnErr}
use Rattle.bk_disk.specs.Well.{is_well}
use Rattle.bk_memdisk.specs.Contents.{Contents, placed, Placed}

pub still_either : {T E : Type 0} (r : Result T E) (P : Type 0) (old new : Contents) → OnOk r P
    → OnErr r (new ≡ old) → (P → IsTrue (is_well new.told)) → IsTrue (is_well old.told) → IsTrue (is_well new.told)
still_either (Ok x) P old new ok err f w = f ok
still_either (Err e) P old new ok err f w = subst (λ (c : Contents). IsTrue (is_well c.told)) (sym err) w

new_place : {X : Type 0} (n : Name) (x : X) (t : Table X) → is_some (at t n) ≡ false → placed n x t ≡ with_name n x t
new_place n x t p = rw p refl

names-placed : {X : Type 0} (n : Name) (x : X) (t : Table X)
    → names (placed n x t) ≡ cond (has (names t) n) (names t) (names t ++ n ∷ [])
names-placed n x t =
    elim (cases_Bool (is_some (at t n))) [
      | inl p ↦ rw (p, sym (is_some-at n t) ∙ p) (names-changed n (λ _. x) t)
      | inr p ↦ ap names (new_place n x t p) ∙ names-with_name n x t
    ]

well_placed : (n : Name) (bytes : List ℕ) (old new : Told) → Placed n bytes old new → IsWell old → IsWell new
well_placed n bytes old new b w = record {
  once = rw (b.image, names-placed) (go (has (names old.image) n) refl);
  paired = rw (b.image, b.fronts, names-placed, names-placed, w.paired) refl;
} where
  go : (is : Bool) → has (names old.image) n ≡ is → IsOnce (cond is (names old.image) (names old.image ++ n ∷ []))
  go true p = w.once
  go false p = IsOnce-append n (names old.image) p w.once

pub still_placed : (n : Name) (bytes : List ℕ) (old new : Told) → Placed n bytes old new
    → IsTrue (is_well old) → IsTrue (is_well new)
still_placed n bytes old new b w = to_test new (well_placed n bytes old new b (from_test old w))
