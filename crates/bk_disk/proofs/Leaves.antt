-- What a crash leaves of each file, and of a disk that is synced whole.
use Rattle.std.proofs.Common.{◌≡◌, ℕ, ◌≤◌, false, List, [], ◌∷◌, length, map, refl, sym, ◌∙◌, ap, arith, subst, inl, inr}
use Rattle.std.specs.Prelude.{IsTrue}
use Rattle.std.specs.declared.option.Option.TheVariants.{Some}
use Rattle.std.specs.Option.{is_some}
use Rattle.std.proofs.lemmas.List.{take_all}
use Rattle.std.proofs.lemmas.Bool.{cases_Bool}
use Rattle.bk_base.specs.declared.names.Name.{Name}
use Rattle.bk_disk.specs.Names.{same}
use Rattle.bk_disk.specs.Told.{Table, Image, Front, Told, at, names, IsOnce, without, renamed}
use Rattle.bk_disk.specs.Calls.{Removed, Renamed}
use Rattle.bk_disk.specs.Crashes.{MayLeave, FileMayLeave, Keeps, front_of, IsSynced}
use Rattle.bk_disk.specs.Well.{is_well}
use Rattle.bk_disk.proofs.Tables.{has, is_some-at}
use Rattle.bk_disk.proofs.Unique.{from_test, to_test}

pub names-left_by : (fronts : Table Front) (image : Image) → MayLeave fronts image → names fronts ≡ names image
names-left_by [] [] h = refl
names-left_by [] (e ∷ es) h = absurd h
names-left_by (f ∷ fs) [] h = absurd h
names-left_by (f ∷ fs) (e ∷ es) h = ap (λ n. n ∷ names fs) h.0 ∙ ap (λ ns. e.0 ∷ ns) (names-left_by fs es h.2)

-- a file is there exactly where it was
pub left_there : (n : Name) (fronts : Table Front) (image : Image) → MayLeave fronts image
    → is_some (at image n) ≡ is_some (at fronts n)
left_there n fronts image h =
    is_some-at n image ∙ ap (λ ns. has ns n) (sym (names-left_by fronts image h)) ∙ sym (is_some-at n fronts)

-- and has what its front allows
pub left_at : (n : Name) (f : Front) (fronts : Table Front) (image : Image) → MayLeave fronts image
    → at fronts n ≡ Some f
    → (bytes : List ℕ) × (at image n ≡ Some bytes) × FileMayLeave f bytes
left_at n f [] image h is = absurd (cc is)
left_at n f (g ∷ fs) [] h is = absurd h
left_at n f (g ∷ fs) (e ∷ es) h is =
    elim (cases_Bool (same n g.0)) [
      | inl p ↦
          let here : at (g ∷ fs) n ≡ Some g.1 = rw p refl in
          let this : g.1 ≡ f = cc (sym here ∙ is) in
          (e.1, rw (← h.0, p) refl, subst (λ (x : Front). FileMayLeave x e.1) this h.1)
      | inr p ↦
          let here : at (g ∷ fs) n ≡ at fs n = rw p refl in
          let left_here : at (e ∷ es) n ≡ at es n = rw (← h.0, p) refl in
          let (bytes, there, left) = left_at n f fs es h.2 (sym here ∙ is) in
          (bytes, left_here ∙ there, left)
    ]

pub kept_whole : (f : Front) (bytes : List ℕ) → f.longest ≤ length f.synced → Keeps f bytes → bytes ≡ f.synced
kept_whole f bytes whole k = sym (take_all (length f.synced) bytes (omega (arith, whole, k.no_longer))) ∙ k.synced

-- a file that is synced whole and not lent is left as it is
pub left_whole : (n : Name) (f : Front) (fronts : Table Front) (image : Image) → MayLeave fronts image
    → at fronts n ≡ Some f
    → f.lent ≡ false → f.longest ≤ length f.synced → at image n ≡ Some f.synced
left_whole n f fronts image h is ours whole =
    let (bytes, there, left) = left_at n f fronts image h is in
    there ∙ ap Some (kept_whole f bytes whole (left.keeps ours))

-- The fronts of files that are synced whole

abbrev pub whole_fronts : Image → Table Front
whole_fronts image = map (λ (e : Name × List ℕ). (e.0, front_of e.1)) image

pub names-whole_fronts : (image : Image) → names (whole_fronts image) ≡ names image
names-whole_fronts [] = refl
names-whole_fronts (e ∷ es) = ap (λ ns. e.0 ∷ ns) (names-whole_fronts es)

pub whole_fronts-without : (n : Name) (image : Image) → whole_fronts (without n image) ≡ without n (whole_fronts image)
whole_fronts-without n [] = refl
whole_fronts-without n (e ∷ es) = grind (arith, whole_fronts-without n es)

pub whole_fronts-renamed : (from to : Name) (image : Image)
    → whole_fronts (renamed from to image) ≡ renamed from to (whole_fronts image)
whole_fronts-renamed from to [] = refl
whole_fronts-renamed from to (e ∷ es) = grind (arith, whole_fronts-renamed from to es)

-- a disk that is synced whole stays so

pub synced-removed : (n : Name) (old new : Told) → IsSynced old → Removed n old new → IsSynced new
synced-removed n old new synced b =
    b.fronts ∙ ap (λ (t : Table Front). without n t) synced ∙ sym (whole_fronts-without n old.image)
    ∙ ap whole_fronts (sym b.image)

pub synced-renamed : (from to : Name) (old new : Told) → IsSynced old → Renamed from to old new → IsSynced new
synced-renamed from to old new synced b =
    b.fronts ∙ ap (λ (t : Table Front). renamed from to t) synced
    ∙ sym (whole_fronts-renamed from to old.image) ∙ ap whole_fronts (sym b.image)

-- each name stands once in what a crash left
pub well_left : (old new : Told) → IsTrue (is_well old) → MayLeave old.fronts new.image → IsSynced new
    → IsTrue (is_well new)
well_left old new test may synced =
    let w = from_test old test in
    to_test new (record {
      once = subst IsOnce (sym w.paired ∙ names-left_by old.fronts new.image may) w.once;
      paired = ap names synced ∙ names-whole_fronts new.image;
    })
