-- One file under a name of a swap list more, behind those that were read.
use Rattle.std.proofs.Common.{◌≡◌, ℕ, zero, suc, ◌+◌, ◌<◌, ◌≤◌, List, [], ◌∷◌, ◌++◌, length, get_or, take, Some, refl, sym, ap, subst, ◌∙◌, inl, inr, arith}
use Rattle.std.proofs.lemmas.List.{take_all, take_more}
use Rattle.bk_base.specs.declared.names.Name.{Name}
use Rattle.bk_laws.specs.SwapList.{IsWhole, SwapList}
use Rattle.bk_swap.specs.Lists.{list_of}
use Rattle.bk_image.specs.Readings.{In, Reading, swap}
use Rattle.bk_image.proofs.Lists.{in-append, in-append_left, in-append_right}
use Rattle.bk_load.specs.declared.directory.Numbered.{Numbered}
use Rattle.bk_load.specs.declared.lists.Lists.{Lists}
use Rattle.bk_load.specs.declared.lists.Standing.{Standing}
use Rattle.bk_load.specs.Directory.{RiseFrom}
use Rattle.bk_disk.specs.Told.{Image, at, range_of}
use Rattle.bk_base.specs.declared.names.Kind.TheVariants.{Swap}
use Rattle.bk_load.proofs.Listings.{map_some, whole_range}
use Rattle.bk_load.proofs.Numbering.{Numbers}
use Rattle.bk_load.specs.Lists.{AreLists, AreOdd, IsOdd, NamesRise, RiseAbove, StandsIn, TakesIn}

rise_behind : (low : ℕ) (xs : List Standing) (y : Standing) → RiseAbove low xs → low ≤ y.id
    → ((x : Standing) → In x xs → x.id < y.id) → RiseAbove low (xs ++ y ∷ [])
rise_behind low [] y rise above below = (above, tt)
rise_behind low (x ∷ xs) y rise above below =
    let first = below x (inl refl) in
    (rise.0, rise_behind (x.id + 1) xs y rise.1 (omega (arith, first)) (λ z is_in. below z (inr is_in)))

names_behind : (low : ℕ) (xs : List Name) (y : Name) → NamesRise low xs → low ≤ y.id → ((x : Name) → In x xs → x.id < y.id)
    → NamesRise low (xs ++ y ∷ [])
names_behind low [] y rise above below = (above, tt)
names_behind low (x ∷ xs) y rise above below =
    let first = below x (inl refl) in
    (rise.0, names_behind (x.id + 1) xs y rise.1 (omega (arith, first)) (λ z is_in. below z (inr is_in)))

-- earlier files have lesser ids
pub from_low : (low : ℕ) (ns : List Numbered) (i : ℕ) (d : Numbered) → RiseFrom low ns → i < length ns → low ≤ (get_or ns i d).id
from_low low [] i d rise within = absurd (omega arith)
from_low low (n ∷ ns) zero d rise within = rise.0
from_low low (n ∷ ns) (suc i) d rise within =
    let p = rise.0 in let q = from_low (n.id + 1) ns i d rise.1 (omega arith) in omega (arith, p, q)

pub earlier_below : (low : ℕ) (ns : List Numbered) (i : ℕ) (d p : Numbered) → RiseFrom low ns → i < length ns → In p (take i ns)
    → p.id < (get_or ns i d).id
earlier_below low [] i d p rise within is_in = absurd (omega arith)
earlier_below low (n ∷ ns) zero d p rise within is_in = absurd is_in
earlier_below low (n ∷ ns) (suc i) d p rise within (inl is) =
    let id : p.id ≡ n.id = ap (λ (x : Numbered). x.id) is in
    let q = from_low (n.id + 1) ns i d rise.1 (omega arith) in omega (arith, id, q)
earlier_below low (n ∷ ns) (suc i) d p rise within (inr later) = earlier_below (n.id + 1) ns i d p rise.1 (omega arith) later

-- What was read of these files
pub record ReadSome (r : Reading) (ps : List Numbered) (l : Lists) : Type 0 where
  pub whole_rise : RiseAbove 0 l.whole.items
  pub odd_rise : NamesRise 0 l.odd.items
  pub whole_each : (x : Standing) → In x l.whole.items → StandsIn r x × ((p : Numbered) × In p ps × (p.id ≡ x.id))
  pub odd_each : (n : Name) → In n l.odd.items → IsOdd r n × ((p : Numbered) × In p ps × (p.id ≡ n.id))
  pub whole_all : (p : Numbered) (bytes : List ℕ) (k : SwapList) → In p ps → r (swap p.id) ≡ Some bytes → IsWhole bytes k
      → (x : Standing) × In x l.whole.items × (x.id ≡ p.id)
  pub odd_all : (p : Numbered) → In p ps → IsOdd r (swap p.id) → In (swap p.id) l.odd.items

pub read_none : (r : Reading) (l : Lists) → l.whole.items ≡ [] → l.odd.items ≡ [] → ReadSome r [] l
read_none r l no_whole no_odd = record {
  whole_rise = subst (RiseAbove 0) (sym no_whole) tt;
  odd_rise = subst (NamesRise 0) (sym no_odd) tt;
  whole_each = λ x is_in. absurd (subst (λ (xs : List Standing). In x xs) no_whole is_in);
  odd_each = λ n is_in. absurd (subst (λ (xs : List Name). In n xs) no_odd is_in);
  whole_all = λ p bytes k is_in. absurd is_in;
  odd_all = λ p is_in. absurd is_in;
}

one_of : {X : Type 0} (x y : X) → In x (y ∷ []) → x ≡ y
one_of x y (inl is) = is
one_of x y (inr none) = absurd none

module _ (r : Reading) (ps : List Numbered) (p : Numbered) (bytes : List ℕ) (j k : Lists) (before : ReadSome r ps j)
    (below : (q : Numbered) → In q ps → q.id < p.id) (there : r (swap p.id) ≡ Some bytes) where
  still : (q : Numbered) → In q ps → In q (ps ++ p ∷ [])
  still q is_in = in-append_left q ps (p ∷ []) is_in

  now : In p (ps ++ p ∷ [])
  now = in-append_right p ps (p ∷ []) (inl refl)

  same_bytes : (b : List ℕ) → r (swap p.id) ≡ Some b → bytes ≡ b
  same_bytes b is = let both : Some bytes ≡ Some b = sym there ∙ is in cc both

  took_whole : (x : Standing) → x.id ≡ p.id → IsWhole bytes (list_of x.list) → k.whole.items ≡ j.whole.items ++ x ∷ []
      → k.odd.items ≡ j.odd.items → ReadSome r (ps ++ p ∷ []) k
  took_whole x id whole added kept = record {
    whole_rise = subst (RiseAbove 0) (sym added)
        (rise_behind 0 j.whole.items x before.whole_rise (omega arith)
        (λ y is_in. let (stands, (q, earlier, is)) = before.whole_each y is_in in
        let low = below q earlier in omega (arith, low, is, id)));
    odd_rise = subst (NamesRise 0) (sym kept) before.odd_rise;
    whole_each = λ y is_in.
        elim (in-append y j.whole.items (x ∷ []) (subst (λ (xs : List Standing). In y xs) added is_in)) [
          | inl was ↦
              let (stands, (q, earlier, is)) = before.whole_each y was in (stands, (q, still q earlier, is))
          | inr here ↦
              let is : y ≡ x = one_of y x here in
              let stands : StandsIn r x = record { bytes = bytes; there = ap (λ (n : ℕ). r (swap n)) id ∙ there; whole = whole } in
              (subst (StandsIn r) (sym is) stands, (p, now, sym id ∙ ap (λ (z : Standing). z.id) (sym is)))
        ];
    odd_each = λ n is_in.
        let (odd, (q, earlier, is)) = before.odd_each n (subst (λ (xs : List Name). In n xs) kept is_in) in
        (odd, (q, still q earlier, is));
    whole_all = λ q b l is_in is is_whole.
        elim (in-append q ps (p ∷ []) is_in) [
          | inl was ↦
              let (y, found, same_id) = before.whole_all q b l was is is_whole in
              (y, subst (λ (xs : List Standing). In y xs) (sym added) (in-append_left y j.whole.items (x ∷ []) found), same_id)
          | inr here ↦ (
            x,
            subst (λ (xs : List Standing). In x xs) (sym added) (in-append_right x j.whole.items (x ∷ []) (inl refl)),
            id ∙ ap (λ (z : Numbered). z.id) (sym (one_of q p here)),
          )
        ];
    odd_all = λ q is_in odd.
        elim (in-append q ps (p ∷ []) is_in) [
          | inl was ↦ subst (λ (xs : List Name). In (swap q.id) xs) (sym kept) (before.odd_all q was odd)
          | inr here ↦
              let is : q ≡ p = one_of q p here in
              let this : IsOdd r (swap p.id) = subst (λ (z : Numbered). IsOdd r (swap z.id)) is odd in
              absurd (this.none (list_of x.list) (subst (λ (b : List ℕ). IsWhole b (list_of x.list)) (same_bytes this.bytes this.there) whole))
        ];
  }

  took_odd : ((l : SwapList) → IsWhole bytes l → ⊥) → k.odd.items ≡ j.odd.items ++ swap p.id ∷ []
      → k.whole.items ≡ j.whole.items → ReadSome r (ps ++ p ∷ []) k
  took_odd none added kept = record {
    whole_rise = subst (RiseAbove 0) (sym kept) before.whole_rise;
    odd_rise = subst (NamesRise 0) (sym added)
        (names_behind 0 j.odd.items (swap p.id) before.odd_rise (omega arith)
        (λ y is_in. let (odd, (q, earlier, is)) = before.odd_each y is_in in let low = below q earlier in omega (arith, low, is)));
    whole_each = λ y is_in.
        let (stands, (q, earlier, is)) = before.whole_each y (subst (λ (xs : List Standing). In y xs) kept is_in) in
        (stands, (q, still q earlier, is));
    odd_each = λ n is_in.
        elim (in-append n j.odd.items (swap p.id ∷ []) (subst (λ (xs : List Name). In n xs) added is_in)) [
          | inl was ↦ let (odd, (q, earlier, is)) = before.odd_each n was in (odd, (q, still q earlier, is))
          | inr here ↦
              let is : n ≡ swap p.id = one_of n (swap p.id) here in
              let this : IsOdd r (swap p.id) = record { bytes = bytes; is = refl; there = there; none = none } in
              (subst (IsOdd r) (sym is) this, (p, now, ap (λ (m : Name). m.id) (sym is)))
        ];
    whole_all = λ q b l is_in is is_whole.
        elim (in-append q ps (p ∷ []) is_in) [
          | inl was ↦
              let (y, found, same_id) = before.whole_all q b l was is is_whole in
              (y, subst (λ (xs : List Standing). In y xs) (sym kept) found, same_id)
          | inr here ↦
              let e : q ≡ p = one_of q p here in
              let at_p : r (swap p.id) ≡ Some b = ap (λ (z : Numbered). r (swap z.id)) (sym e) ∙ is in
              absurd (none l (subst (λ (c : List ℕ). IsWhole c l) (sym (same_bytes b at_p)) is_whole))
        ];
    odd_all = λ q is_in odd.
        elim (in-append q ps (p ∷ []) is_in) [
          | inl was ↦ subst (λ (xs : List Name). In (swap q.id) xs) (sym added)
              (in-append_left (swap q.id) j.odd.items (swap p.id ∷ []) (before.odd_all q was odd))
          | inr here ↦ subst (λ (xs : List Name). In (swap q.id) xs) (sym added)
              (in-append_right (swap q.id) j.odd.items (swap p.id ∷ []) (inl (ap (λ (z : Numbered). swap z.id) (one_of q p here))))
        ];
  }

pub read_more : (r : Reading) (ns : List Numbered) (i : ℕ) (d : Numbered) (bytes : List ℕ) (j k : Lists) (low : ℕ) → RiseFrom low ns
    → i < length ns → ReadSome r (take i ns) j → r (swap (get_or ns i d).id) ≡ Some bytes
    → TakesIn (swap (get_or ns i d).id) bytes j k → ReadSome r (take (i + 1) ns) k
read_more r ns i d bytes j k low rise within before there takes =
    subst (λ (ps : List Numbered). ReadSome r ps k) (sym (take_more ns i d within))
    (elim takes [
      | inl whole ↦ took_whole r (take i ns) (get_or ns i d) bytes j k before
          (λ q is_in. earlier_below low ns i d q rise within is_in) there whole.list whole.id whole.whole whole.added whole.same_odd
      | inr odd ↦ took_odd r (take i ns) (get_or ns i d) bytes j k before
          (λ q is_in. earlier_below low ns i d q rise within is_in) there odd.none odd.added odd.same_whole
    ])

-- what was read of the next file was taken in
pub swap_more : (image now : Image) (ns : List Numbered) (i : ℕ) (d : Numbered) (name : Name) (read bytes : List ℕ) (j k : Lists)
    → Numbers image Swap 0 ns → now ≡ image → i < length ns → name ≡ swap (get_or ns i d).id → bytes ≡ read
    → read ≡ range_of name 0 (get_or ns i d).len now → TakesIn name bytes j k → ReadSome (at image) (take i ns) j
    → ReadSome (at image) (take (i + 1) ns) k
swap_more image now ns i d name read bytes j k numbers same_image within is same_read ranged takes before =
    let (all, there, long) = map_some (at image (swap (get_or ns i d).id)) (get_or ns i d).len (numbers.there i d within) in
    let text : bytes ≡ all =
    same_read ∙ ranged ∙ ap (λ (m : Name). range_of m 0 (get_or ns i d).len now) is
    ∙ ap (range_of (swap (get_or ns i d).id) 0 (get_or ns i d).len) same_image
    ∙ whole_range image (swap (get_or ns i d).id) all (get_or ns i d).len there long in
    read_more (at image) ns i d bytes j k 0 numbers.rise within before (there ∙ ap Some (sym text))
    (subst (λ (m : Name). TakesIn m bytes j k) is takes)

-- all of them were read

pub all_lists : (r : Reading) (ns : List Numbered) (l : Lists) → ReadSome r ns l
    → ((id : ℕ) (bytes : List ℕ) → r (swap id) ≡ Some bytes → (p : Numbered) × In p ns × (p.id ≡ id)) → AreLists r l.whole.items
all_lists r ns l read all = record {
  low = 0;
  rise = read.whole_rise;
  each = λ x is_in. (read.whole_each x is_in).0;
  all = λ k h.
      let (p, is_in, id) = all h.id h.bytes h.there in
      let (x, found, same_id) = read.whole_all p h.bytes k is_in (ap (λ (n : ℕ). r (swap n)) id ∙ h.there) h.whole in
      (x, found, same_id ∙ id);
}

pub all_odd : (r : Reading) (ns : List Numbered) (l : Lists) → ReadSome r ns l
    → ((id : ℕ) (bytes : List ℕ) → r (swap id) ≡ Some bytes → (p : Numbered) × In p ns × (p.id ≡ id)) → AreOdd r l.odd.items
all_odd r ns l read all = record {
  rise = read.odd_rise;
  each = λ n is_in. (read.odd_each n is_in).0;
  all = λ n odd.
      let (p, is_in, id) = all n.id odd.bytes (ap r (sym odd.is) ∙ odd.there) in
      let name : swap p.id ≡ n = ap swap id ∙ sym odd.is in
      let this : IsOdd r (swap p.id) = subst (IsOdd r) (sym name) odd in
      subst (λ (m : Name). In m l.odd.items) name (read.odd_all p is_in this);
}

pub lists_done : (image : Image) (ns : List Numbered) (i : ℕ) (l : Lists) → Numbers image Swap 0 ns → length ns ≤ i
    → ReadSome (at image) (take i ns) l → AreLists (at image) l.whole.items
lists_done image ns i l numbers all read =
    all_lists (at image) ns l (subst (λ (ps : List Numbered). ReadSome (at image) ps l) (take_all i ns all) read)
    (λ id bytes is. numbers.all id bytes (omega arith) is)

pub odd_done : (image : Image) (ns : List Numbered) (i : ℕ) (l : Lists) → Numbers image Swap 0 ns → length ns ≤ i
    → ReadSome (at image) (take i ns) l → AreOdd (at image) l.odd.items
odd_done image ns i l numbers all read =
    all_odd (at image) ns l (subst (λ (ps : List Numbered). ReadSome (at image) ps l) (take_all i ns all) read)
    (λ id bytes is. numbers.all id bytes (omega arith) is)
