-- What each call leaves as it was: the file and the front of every other name.
use Rattle.std.proofs.Common.{◌≡◌, ℕ, Bool, false, List, [], ◌∙◌, ap, sym, subst}
use Rattle.std.specs.Option.{IsSome, IsSomeAnd, unwrap_or}
use Rattle.std.specs.declared.option.Option.{Option}
use Rattle.bk_base.specs.declared.names.Name.{Name}
use Rattle.bk_disk.specs.Names.{same}
use Rattle.bk_disk.specs.Told.{Table, Image, Front, Told, at, bytes_of, IsOurs}
use Rattle.bk_disk.specs.Calls.{Appended, Synced, Cut, Made, Removed, Renamed, Returned}
use Rattle.bk_disk.proofs.Tables.{at-changed_other, at-with_name_other, at-without_other, at-renamed_other}

pub record SameAt (m : Name) (old new : Told) : Type 0 where
  pub image : at new.image m ≡ at old.image m
  pub front : at new.fronts m ≡ at old.fronts m

pub appended_frame : (n m : Name) (count : ℕ) (piece : List ℕ) (old new : Told) → same m n ≡ false
    → Appended n count piece old new → SameAt m old new
appended_frame n m count piece old new other b = record {
  image = ap (λ (t : Image). at t m) b.image ∙ at-changed_other n m _ old.image other;
  front = ap (λ (t : Table Front). at t m) b.fronts ∙ at-changed_other n m _ old.fronts other;
}

pub synced_frame : (n m : Name) (old new : Told) → same m n ≡ false → Synced n old new → SameAt m old new
synced_frame n m old new other b = record {
  image = ap (λ (t : Image). at t m) b.image;
  front = ap (λ (t : Table Front). at t m) b.fronts ∙ at-changed_other n m _ old.fronts other;
}

pub cut_frame : (n m : Name) (len : ℕ) (old new : Told) → same m n ≡ false → Cut n len old new → SameAt m old new
cut_frame n m len old new other b = record {
  image = ap (λ (t : Image). at t m) b.image ∙ at-changed_other n m _ old.image other;
  front = ap (λ (t : Table Front). at t m) b.fronts;
}

pub made_frame : (n m : Name) (is_lent : Bool) (old new : Told) → same m n ≡ false
    → Made n is_lent old new → SameAt m old new
made_frame n m is_lent old new other b = record {
  image = ap (λ (t : Image). at t m) b.image ∙ at-with_name_other n m _ old.image other;
  front = ap (λ (t : Table Front). at t m) b.fronts ∙ at-with_name_other n m _ old.fronts other;
}

pub removed_frame : (n m : Name) (old new : Told) → same m n ≡ false → Removed n old new → SameAt m old new
removed_frame n m old new other b = record {
  image = ap (λ (t : Image). at t m) b.image ∙ at-without_other n m old.image other;
  front = ap (λ (t : Table Front). at t m) b.fronts ∙ at-without_other n m old.fronts other;
}

pub renamed_frame : (from to m : Name) (old new : Told) → same m from ≡ false → same m to ≡ false
    → Renamed from to old new → SameAt m old new
renamed_frame from to m old new other another b = record {
  image = ap (λ (t : Image). at t m) b.image ∙ at-renamed_other from to m old.image other another;
  front = ap (λ (t : Table Front). at t m) b.fronts ∙ at-renamed_other from to m old.fronts other another;
}

pub returned_frame : (n m : Name) (bytes : List ℕ) (old new : Told) → same m n ≡ false
    → Returned n bytes old new → SameAt m old new
returned_frame n m bytes old new other b = record {
  image = ap (λ (t : Image). at t m) b.image ∙ at-changed_other n m _ old.image other;
  front = ap (λ (t : Table Front). at t m) b.fronts ∙ at-changed_other n m _ old.fronts other;
}

-- What follows at such a name

pub same_bytes : (m : Name) (old new : Told) → SameAt m old new → bytes_of m new.image ≡ bytes_of m old.image
same_bytes m old new s = ap (λ (o : Option (List ℕ)). unwrap_or o []) s.image

pub same_ours : (m : Name) (old new : Told) → SameAt m old new → IsOurs m old → IsOurs m new
same_ours m old new s ours = (
  subst (λ (o : Option (List ℕ)). IsSome o) (sym s.image) ours.0,
  subst (λ (o : Option Front). IsSomeAnd o (λ f. f.lent ≡ false)) (sym s.front) ours.1,
)
