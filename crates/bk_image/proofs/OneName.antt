-- What each call of a disk does at the one or two names that it is about.
use Rattle.std.proofs.Common.{◌≡◌, ℕ, Bool, true, false, List, [], ◌++◌, length, take, Option, Some, None, refl, sym, ap, subst, ◌∙◌, inl, inr}
use Rattle.std.specs.Option.{is_some}
use Rattle.std.proofs.lemmas.Bool.{cases_Bool, true≢false}
use Rattle.bk_base.specs.declared.names.Name.{Name}
use Rattle.bk_disk.specs.Names.{same}
use Rattle.bk_disk.specs.Told.{Table, Front, Told, at, IsOnce, IsAbsent, IsWell}
use Rattle.bk_disk.specs.Calls.{Appended, Synced, Cut, Made, Removed, Renamed, Returned, fresh, pending_more, all_synced, brought_back}
use Rattle.bk_disk.proofs.Frames.{SameAt, appended_frame, synced_frame, cut_frame, made_frame, removed_frame, renamed_frame, returned_frame}
use Rattle.bk_disk.proofs.Names.{same_eq}
use Rattle.bk_disk.proofs.Files.{there_in_both}
use Rattle.bk_disk.proofs.Tables.{at-changed, at-with_name, at-without, at-renamed, at-renamed_from}

-- what holds of one name, and of each other one
pub by_name : (P : Name → Type 0) (n : Name) → P n → ((m : Name) → same m n ≡ false → P m)
    → (m : Name) → P m
by_name P n here others m =
    elim (cases_Bool (same m n)) [ inl p ↦ subst P (sym (same_eq m n p)) here | inr p ↦ others m p ]

-- a value is there, or none is
pub some_of : {X : Type 0} (o : Option X) → is_some o ≡ true → (x : X) × (o ≡ Some x)
some_of (Some x) there = (x, refl)
some_of None there = absurd (true≢false (sym there))

pub none_of : {X : Type 0} (o : Option X) → is_some o ≡ false → o ≡ None
none_of (Some x) absent = absurd (true≢false absent)
none_of None absent = refl

-- each other name has the file and the front that it had
abbrev pub SameBut : Name → Told → Told → Type 0
SameBut n old new = (m : Name) → same m n ≡ false → SameAt m old new

-- One name now has these bytes and this front, and each other name has what it had.
pub record IsOneAt (n : Name) (bytes : Option (List ℕ)) (f : Option Front)
    (old new : Told) : Type 0 where
  pub image : at new.image n ≡ bytes
  pub front : at new.fronts n ≡ f
  pub others : SameBut n old new

pub one_appended : (n : Name) (count : ℕ) (piece bytes : List ℕ) (f : Front) (old new : Told)
    → at old.image n ≡ Some bytes → at old.fronts n ≡ Some f → Appended n count piece old new
    → IsOneAt n (Some (bytes ++ take count piece))
    (Some (pending_more (length (bytes ++ take count piece)) piece f)) old new
one_appended n count piece bytes f old new image front b = record {
  image = rw (b.image, at-changed, image) refl;
  front = rw (b.fronts, at-changed, front, image) refl;
  others = λ m other. appended_frame n m count piece old new other b;
}

pub one_synced : (n : Name) (bytes : List ℕ) (f : Front) (old new : Told)
    → at old.image n ≡ Some bytes → at old.fronts n ≡ Some f → Synced n old new
    → IsOneAt n (Some bytes) (Some (all_synced bytes f)) old new
one_synced n bytes f old new image front b = record {
  image = rw b.image image;
  front = rw (b.fronts, at-changed, front, image) refl;
  others = λ m other. synced_frame n m old new other b;
}

pub one_cut : (n : Name) (len : ℕ) (bytes : List ℕ) (old new : Told)
    → at old.image n ≡ Some bytes → Cut n len old new
    → IsOneAt n (Some (take len bytes)) (at old.fronts n) old new
one_cut n len bytes old new image b = record {
  image = rw (b.image, at-changed, image) refl;
  front = ap (λ (t : Table Front). at t n) b.fronts;
  others = λ m other. cut_frame n m len old new other b;
}

-- a new file
pub one_made : (n : Name) (is_lent : Bool) (old new : Told) → IsWell old → IsAbsent n old.image
    → Made n is_lent old new
    → IsOneAt n (Some []) (Some (fresh is_lent)) old new
one_made n is_lent old new well absent b =
    let no_front : is_some (at old.fronts n) ≡ false = there_in_both old n well ∙ absent in
    record {
      image = rw (b.image, at-with_name n [] old.image absent) refl;
      front = rw (b.fronts, at-with_name n (fresh is_lent) old.fronts no_front) refl;
      others = λ m other. made_frame n m is_lent old new other b;
    }

-- a file that was there already is kept
pub one_kept : (n : Name) (is_lent : Bool) (old new : Told) → IsWell old
    → is_some (at old.image n) ≡ true → Made n is_lent old new
    → IsOneAt n (at old.image n) (at old.fronts n) old new
one_kept n is_lent old new well there b =
    let front : is_some (at old.fronts n) ≡ true = there_in_both old n well ∙ there in
    record {
      image = rw (b.image, there) refl;
      front = rw (b.fronts, front) refl;
      others = λ m other. made_frame n m is_lent old new other b;
    }

pub one_removed : (n : Name) (old new : Told) → IsWell old → Removed n old new
    → IsOneAt n None None old new
one_removed n old new well b = record {
  image = rw b.image (at-without n old.image well.once);
  front = rw b.fronts (at-without n old.fronts (subst IsOnce (sym well.paired) well.once));
  others = λ m other. removed_frame n m old new other b;
}

pub one_returned : (n : Name) (bytes past : List ℕ) (f : Front) (old new : Told)
    → at old.image n ≡ Some past → at old.fronts n ≡ Some f → Returned n bytes old new
    → IsOneAt n (Some bytes) (Some (brought_back bytes f)) old new
one_returned n bytes past f old new image front b = record {
  image = rw (b.image, at-changed, image) refl;
  front = rw (b.fronts, at-changed, front) refl;
  others = λ m other. returned_frame n m bytes old new other b;
}

-- The first name is gone, the second has what the first had, and each other name has what it had.
pub record AreTwoAt (from to : Name) (old new : Told) : Type 0 where
  pub no_image : at new.image from ≡ None
  pub no_front : at new.fronts from ≡ None
  pub image : at new.image to ≡ at old.image from
  pub front : at new.fronts to ≡ at old.fronts from
  pub others : (m : Name) → same m from ≡ false → same m to ≡ false → SameAt m old new

pub two_renamed : (from to : Name) (old new : Told) → IsWell old → same from to ≡ false
    → is_some (at old.image from) ≡ true → IsAbsent to old.image → Renamed from to old new
    → AreTwoAt from to old new
two_renamed from to old new well apart there absent b =
    let front_there : is_some (at old.fronts from) ≡ true = there_in_both old from well ∙ there in
    let front_absent : is_some (at old.fronts to) ≡ false = there_in_both old to well ∙ absent in
    record {
      no_image = rw b.image (at-renamed_from from to old.image well.once apart);
      no_front = rw b.fronts (at-renamed_from from to old.fronts
          (subst IsOnce (sym well.paired) well.once) apart);
      image = rw b.image (at-renamed from to old.image there absent);
      front = rw b.fronts (at-renamed from to old.fronts front_there front_absent);
      others = λ m one two. renamed_frame from to m old new one two b;
    }
