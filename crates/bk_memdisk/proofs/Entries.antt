-- What an entry at the end of the journal adds, and the fronts of files that the journal tells.
use Rattle.std.proofs.Common.{◌≡◌, ℕ, List, [], ◌∷◌, ◌++◌, refl, ◌∙◌, ap, arith, inl, inr}
use Rattle.std.specs.declared.option.Option.TheVariants.{Some}
use Rattle.std.specs.Option.{option_map, is_some}
use Rattle.std.proofs.lemmas.Bool.{cases_Bool}
use Rattle.bk_base.specs.declared.names.Name.{Name}
use Rattle.bk_disk.specs.declared.disks.Listed.{Listed}
use Rattle.bk_disk.specs.Names.{same}
use Rattle.bk_disk.specs.Told.{Table, Image, Front, Told, at, names, changed, with_name, without, renamed}
use Rattle.bk_disk.specs.Calls.{Becomes}
use Rattle.bk_memdisk.specs.declared.changes.Change.{Change}
use Rattle.bk_memdisk.specs.Contents.{placed}
use Rattle.bk_memdisk.specs.Journal.{Kept, after, after_all, fronts_of, fronts_before}

pub after_all-append : (t : Table Kept) (cs : List Change) (c : Change)
    → after_all t (cs ++ c ∷ []) ≡ after (after_all t cs) c
after_all-append t [] c = refl
after_all-append t (d ∷ ds) c = after_all-append (after t d) ds c

pub fronts_before-append : (t : Table Kept) (cs : List Change) (c : Change)
    → fronts_before t (cs ++ c ∷ []) ≡ fronts_before t cs ++ fronts_of (after_all t cs) ∷ []
fronts_before-append t [] c = refl
fronts_before-append t (d ∷ ds) c = ap (λ past. fronts_of t ∷ past) (fronts_before-append (after t d) ds c)

-- what is told of these files under this journal
abbrev pub told_of : Image → List Change → List Listed → ℕ → Told
told_of image cs asked stray_views = record {
  image = image;
  past = fronts_before [] cs;
  fronts = fronts_of (after_all [] cs);
  asked = asked;
  stray_views = stray_views;
}

-- one entry more
pub becomes : (edit : Image → Image) (step : Table Front
    → Table Front) (old new : Image) (cs ds : List Change) (c : Change) (asked : List Listed) (stray_views : ℕ)
    → ds ≡ cs ++ c ∷ [] → new ≡ edit old → fronts_of (after (after_all [] cs) c) ≡ step
    (fronts_of (after_all [] cs)) → Becomes edit step (told_of old cs asked stray_views)
    (told_of new ds asked stray_views)
becomes edit step old new cs ds c asked stray_views more image fronts = record {
  passes = inr (ap (fronts_before []) more ∙ fronts_before-append [] cs c);
  image = image;
  fronts = ap (λ xs. fronts_of (after_all [] xs)) more ∙ ap fronts_of (after_all-append [] cs c) ∙ fronts;
  asked = refl;
  stray_views = refl;
}

-- no entry, since no crash can tell the change
pub becomes_untold : (edit : Image → Image) (step : Table Front → Table Front) (old new : Image)
    (cs : List Change) (asked : List Listed) (stray_views : ℕ)
    → new ≡ edit old → fronts_of (after_all [] cs) ≡ step (fronts_of (after_all [] cs))
    → Becomes edit step (told_of old cs asked stray_views) (told_of new cs asked stray_views)
becomes_untold edit step old new cs asked stray_views image fronts = record {
  passes = inl (refl, refl);
  image = image;
  fronts = fronts;
  asked = refl;
  stray_views = refl;
}

-- The fronts after an edit

pub at-fronts_of : (n : Name) (t : Table Kept) → at (fronts_of t) n ≡ option_map (λ (k : Kept). k.front) (at t n)
at-fronts_of n [] = refl
at-fronts_of n (e ∷ es) = grind (arith, at-fronts_of n es)

names-fronts_of : (t : Table Kept) → names (fronts_of t) ≡ names t
names-fronts_of [] = refl
names-fronts_of (e ∷ es) = ap (λ ns. e.0 ∷ ns) (names-fronts_of es)

pub is_some-fronts_of : (n : Name) (t : Table Kept) → is_some (at (fronts_of t) n) ≡ is_some (at t n)
is_some-fronts_of n [] = refl
is_some-fronts_of n (e ∷ es) = grind (arith, is_some-fronts_of n es)

pub fronts-changed : (n : Name) (g : Kept → Kept) (step : Front → Front) (t : Table Kept)
    → ((k : Kept) → at t n ≡ Some k → (g k).front ≡ step k.front)
    → fronts_of (changed n g t) ≡ changed n step (fronts_of t)
fronts-changed n g step [] h = refl
fronts-changed n g step (e ∷ es) h =
    elim (cases_Bool (same n e.0)) [
      | inl p ↦ rw p (ap (λ front. (e.0, front) ∷ fronts_of es) (h e.1 (rw p refl)))
      | inr p ↦ rw p (ap (λ fronts. (e.0, e.1.front) ∷ fronts) (fronts-changed n g step es (λ k is. h k (rw p is))))
    ]

fronts_of-append : (n : Name) (k : Kept) (t : Table Kept)
    → fronts_of (t ++ (n, k) ∷ []) ≡ fronts_of t ++ (n, k.front) ∷ []
fronts_of-append n k [] = refl
fronts_of-append n k (e ∷ es) = ap (λ fronts. (e.0, e.1.front) ∷ fronts) (fronts_of-append n k es)

pub fronts-with_name : (n : Name) (k : Kept) (t : Table Kept)
    → fronts_of (with_name n k t) ≡ with_name n k.front (fronts_of t)
fronts-with_name n k t = rw is_some-fronts_of (grind (arith, fronts_of-append n k t))

pub fronts-placed : (n : Name) (k : Kept) (t : Table Kept) → fronts_of (placed n k t) ≡ placed n k.front (fronts_of t)
fronts-placed n k t =
    rw is_some-fronts_of
    (grind (arith, fronts_of-append n k t, fronts-changed n (λ _. k) (λ _. k.front) t (λ j is. refl)))

pub fronts-without : (n : Name) (t : Table Kept) → fronts_of (without n t) ≡ without n (fronts_of t)
fronts-without n [] = refl
fronts-without n (e ∷ es) = grind (arith, fronts-without n es)

pub fronts-renamed : (from to : Name) (t : Table Kept) → fronts_of (renamed from to t) ≡ renamed from to (fronts_of t)
fronts-renamed from to [] = refl
fronts-renamed from to (e ∷ es) = grind (arith, fronts-renamed from to es)
