-- Files that nothing needs may go, also after others have gone.
use Rattle.std.proofs.Common.{◌≡◌, ℕ, ◌+◌, ◌<◌, ◌≤◌, get_or, take, subst, Bool, true, false, cond, List, [], ◌∷◌, length, Option, Some, None, refl, sym, ap, ◌∙◌, inl, inr}
use Rattle.std.specs.Option.{is_some, option_map}
use Rattle.std.proofs.lemmas.Bool.{not-true, cases_Bool}
use Rattle.std.proofs.lemmas.List.{take_all}
use Rattle.bk_base.specs.declared.names.Kind.{Kind}
use Rattle.bk_base.specs.declared.names.Kind.TheVariants.{Main, MainTemp, Hint, HintTemp, Swap, SwapTemp, Settings}
use Rattle.bk_base.specs.declared.names.Name.{Name}
use Rattle.bk_disk.specs.declared.disks.Listed.{Listed}
use Rattle.bk_disk.specs.Names.{same}
use Rattle.bk_disk.specs.Told.{Image, IsOnce, at, listing, names}
use Rattle.bk_image.specs.CountedFiles.{HasNoList}
use Rattle.bk_image.specs.Readings.{In, IsThere, Reading, main}
use Rattle.bk_load.specs.Directory.{IsCleared, len_in, loose_by, or_len}
use Rattle.bk_load.specs.Steps.{LacksOnly}
use Rattle.bk_load.proofs.Items.{in_more}
use Rattle.bk_load.specs.Tidying.{Tidied}
use Rattle.bk_load.proofs.Listings.{len_at, there_listed, there_some}
use Rattle.bk_load.proofs.Tidied.{IsLoose, counts_own, lacks_same, lacks_there, no_list_still, not_there, own_name}

or_left : (o p : Option ℕ) → is_some o ≡ true → is_some (or_len o p) ≡ true
or_left (Some n) p is = refl
or_left None p is = absurd (cc is)

or_right : (o p : Option ℕ) → is_some p ≡ true → is_some (or_len o p) ≡ true
or_right (Some n) p is = refl
or_right None p is = is

-- a file that is there is listed with a length
pub len_there : (image : Image) (n : Name) → is_some (at image n) ≡ true → is_some (len_in (listing image) n) ≡ true
len_there [] n there = absurd (cc there)
len_there (e ∷ es) n there =
    elim (cases_Bool (same n e.0)) [
      | inl p ↦ or_right (len_in (listing es) n) (cond (same n e.0) (Some (length e.1)) None) (rw p refl)
      | inr p ↦
          let here : at (e ∷ es) n ≡ at es n = rw p refl in
          or_left (len_in (listing es) n) (cond (same n e.0) (Some (length e.1)) None)
          (len_there es n (ap is_some (sym here) ∙ there))
    ]

record Loose (b : Bool) (k : Kind) : Type 0 where
  no_main : k ≡ Main → ⊥
  no_swap : k ≡ Swap → ⊥
  no_data : k ≡ Hint → b ≡ false

loose_kind : (b : Bool) (k : Kind) → loose_by b k ≡ true → Loose b k
loose_kind b MainTemp is = record { no_main = λ e. cc e; no_swap = λ e. cc e; no_data = λ e. absurd (cc e) }
loose_kind b HintTemp is = record { no_main = λ e. cc e; no_swap = λ e. cc e; no_data = λ e. absurd (cc e) }
loose_kind b SwapTemp is = record { no_main = λ e. cc e; no_swap = λ e. cc e; no_data = λ e. absurd (cc e) }
loose_kind b Hint is = record { no_main = λ e. cc e; no_swap = λ e. cc e; no_data = λ e. not-true b is }
loose_kind b Main is = absurd (cc is)
loose_kind b Swap is = absurd (cc is)
loose_kind b Settings is = absurd (cc is)

-- where these were the files, and no list stood
pub loose_now : (image now : Image) (files : List Listed) (n : Name) (has : Option ℕ) → HasNoList (at image)
    → Tidied (at image) (at now) → files ≡ listing image → has ≡ len_in files (main n.id) → loose_by (is_some has) n.kind ≡ true
    → IsLoose (at now) n
loose_now image now files n has none tidied listed is loose =
    let kind = loose_kind (is_some has) n.kind loose in
    record {
      no_main = kind.no_main;
      no_swap = kind.no_swap;
      no_data = λ is_hint first there.
          let (bytes, here) = there_some (at now (main n.id)) there in
          let counted = tidied.was n.id bytes
          (counts_own (at now) n.id bytes first (no_list_still (at image) (at now) tidied none) here) in
          let was : at image (main n.id) ≡ Some bytes = own_name (at image) n.id bytes none counted in
          let some : is_some has ≡ true = ap is_some is ∙ ap (λ (fs : List Listed). is_some (len_in fs (main n.id))) listed
          ∙ len_there image (main n.id) (ap is_some was) in
          let never : false ≡ true = sym (kind.no_data is_hint) ∙ some in
          cc never;
    }

-- The loop that removes them

-- of these files those that nothing needs are gone
pub record ClearedSome (was now : Reading) (done : List Listed) : Type 0 where
  pub fewer : (m : Name) → IsThere now m → IsThere was m
  pub mains : (id : ℕ) → now (main id) ≡ was (main id)
  pub gone : (f : Listed) → In f done → loose_by (is_some (was (main f.name.id))) f.name.kind ≡ true → IsThere now f.name → ⊥

pub cleared_none : (image now : Image) → now ≡ image → ClearedSome (at image) (at now) []
cleared_none image now same_image = record {
  fewer = λ m there. ap (λ (i : Image). is_some (at i m)) (sym same_image) ∙ there;
  mains = λ id. ap (λ (i : Image). at i (main id)) same_image;
  gone = λ f is_in. absurd is_in;
}

pub cleared_more : (was now new : Reading) (files : List Listed) (i : ℕ) (d : Listed) → i < length files
    → ((get_or files i d).name.kind ≡ Main → ⊥) → LacksOnly (get_or files i d).name now new
    → ClearedSome was now (take i files) → ClearedSome was new (take (i + 1) files)
cleared_more was now new files i d low never lacks before =
    let n = (get_or files i d).name in
    record {
      fewer = λ m there. before.fewer m (lacks_there n now new m lacks there);
      mains = λ id. lacks_same n now new (main id) lacks (λ e. never (sym e)) ∙ before.mains id;
      gone = λ f is_in loose there.
          elim (in_more f files i d low is_in) [
            | inl earlier ↦ before.gone f earlier loose (lacks_there n now new f.name lacks there)
            | inr here ↦
                let none : new f.name ≡ None = ap (λ (x : Listed). new x.name) here ∙ lacks.gone in
                not_there (new f.name) none there
          ];
    }

cleared_still : (was now : Reading) (files : List Listed) (i : ℕ) (d : Listed) → i < length files
    → loose_by (is_some (was (main (get_or files i d).name.id))) (get_or files i d).name.kind ≡ false
    → ClearedSome was now (take i files) → ClearedSome was now (take (i + 1) files)
cleared_still was now files i d low needed before = record {
  fewer = before.fewer;
  mains = before.mains;
  gone = λ f is_in loose there.
      elim (in_more f files i d low is_in) [
        | inl earlier ↦ before.gone f earlier loose there
        | inr here ↦
            let same_test = ap (λ (x : Listed). loose_by (is_some (was (main x.name.id))) x.name.kind) here in
            let never : true ≡ false = sym loose ∙ same_test ∙ needed in
            cc never
      ];
}

map_there : (o : Option (List ℕ)) → is_some (option_map length o) ≡ is_some o
map_there None = refl
map_there (Some bytes) = refl

-- whether a file's data file is there, as it is listed
has_main : (image : Image) (files : List Listed) (id : ℕ) (has : Option ℕ) → IsOnce (names image) → files ≡ listing image
    → has ≡ len_in files (main id) → is_some has ≡ is_some (at image (main id))
has_main image files id has once listed is =
    ap is_some (sym (len_at image files (main id) has once listed is)) ∙ map_there (at image (main id))

pub cleared_kept : (image now : Image) (files items : List Listed) (i : ℕ) (d : Listed) (has : Option ℕ) (loose : Bool)
    → IsOnce (names image) → files ≡ listing image → i < length items → has ≡ len_in files (main (get_or items i d).name.id)
    → loose ≡ loose_by (is_some has) (get_or items i d).name.kind → loose ≡ false
    → ClearedSome (at image) (at now) (take i items) → ClearedSome (at image) (at now) (take (i + 1) items)
cleared_kept image now files items i d has loose once listed low is tested not-true before =
    cleared_still (at image) (at now) items i d low
    (ap (λ (b : Bool). loose_by b (get_or items i d).name.kind)
    (sym (has_main image files (get_or items i d).name.id has once listed is)) ∙ sym tested ∙ not-true) before

pub not_main : (has_main : Bool) (k : Kind) → loose_by has_main k ≡ true → k ≡ Main → ⊥
not_main has_main k is = (loose_kind has_main k is).no_main

pub cleared_all : (image now : Image) (files : List Listed) (i : ℕ) → files ≡ listing image → length files ≤ i
    → ClearedSome (at image) (at now) (take i files) → IsCleared (at now)
cleared_all image now files i listed all cleared n there =
    elim (cases_Bool (loose_by (is_some (at now (main n.id))) n.kind)) [
      | inl loose ↦
          let (f, is_in, name) = there_listed image files n listed (cleared.fewer n there) in
          let main_was : is_some (at now (main n.id)) ≡ is_some (at image (main n.id)) = ap is_some (cleared.mains n.id) in
          let was_loose : loose_by (is_some (at image (main n.id))) n.kind ≡ true =
          ap (λ (b : Bool). loose_by b n.kind) (sym main_was) ∙ loose in
          let of_f : loose_by (is_some (at image (main f.name.id))) f.name.kind ≡ true =
          ap (λ (m : Name). loose_by (is_some (at image (main m.id))) m.kind) name ∙ was_loose in
          absurd (cleared.gone f (subst (λ (fs : List Listed). In f fs) (sym (take_all i files all)) is_in) of_f
          (ap (λ (m : Name). is_some (at now m)) name ∙ there))
      | inr needed ↦ needed
    ]
