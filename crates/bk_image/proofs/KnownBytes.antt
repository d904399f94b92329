-- The known bytes of the files after each call: what a store knows to be whole records stays.
use Rattle.std.proofs.Common.{◌≡◌, ℕ, ◌+◌, ◌≤◌, false, cond, List, ◌++◌, length, take, Option, Some, None, refl, sym, ap, subst, ◌∙◌, arith}
use Rattle.std.specs.Option.{option_map}
use Rattle.std.proofs.lemmas.List.{length-append, take_all, take_at, take-append-le, take-take}
use Rattle.bk_base.specs.declared.names.Name.{Name}
use Rattle.bk_base.specs.declared.writes.Write.{Write}
use Rattle.bk_laws.specs.Record.{records_of}
use Rattle.bk_disk.specs.Names.{same}
use Rattle.bk_disk.specs.Told.{Front, Image, Table, Told, at}
use Rattle.bk_disk.specs.Calls.{Appended, Cut}
use Rattle.bk_disk.proofs.Names.{same_refl}
use Rattle.bk_image.specs.Core.{ActiveFile, Core, IsActiveFile}
use Rattle.bk_image.specs.Known.{known_of}
use Rattle.bk_image.specs.Readings.{Books, Reading, main}
use Rattle.bk_disk.proofs.Frames.{appended_frame, cut_frame}
use Rattle.bk_disk.proofs.Tables.{at-changed}
use Rattle.bk_image.proofs.OneName.{by_name}

-- the active file with its known bytes
pub known_here : (a : ActiveFile) (image : Image)
    → known_of (Some a) image (main a.id) ≡ option_map (take a.len) (at image (main a.id))
known_here a image = rw (same_refl (main a.id)) refl

pub known_other : (a : ActiveFile) (image : Image) (n : Name) → same n (main a.id) ≡ false
    → known_of (Some a) image n ≡ at image n
known_other a image n other = rw other refl

-- the same at the active file and at each other one
known_same : (a b : ActiveFile) (old new : Image) → a.id ≡ b.id
    → option_map (take b.len) (at new (main b.id)) ≡ option_map (take a.len) (at old (main a.id))
    → ((n : Name) → same n (main a.id) ≡ false → at new n ≡ at old n)
    → (n : Name) → known_of (Some b) new n ≡ known_of (Some a) old n
known_same a b old new is here others =
    by_name (λ n. known_of (Some b) new n ≡ known_of (Some a) old n) (main a.id)
    (subst (λ (id : ℕ). known_of (Some b) new (main id)
    ≡ option_map (take b.len) (at new (main b.id))) (sym is) (known_here b new)
    ∙ here ∙ sym (known_here a old))
    (λ n other.
    let there : same n (main b.id) ≡ false = subst
    (λ (id : ℕ). same n (main id) ≡ false) is other in
    known_other b new n there ∙ others n other ∙ sym (known_other a old n other))

-- what a failed append left behind the known bytes changes nothing
pub known_behind : (a : ActiveFile) (count : ℕ) (piece bytes : List ℕ) (old new : Told)
    → at old.image (main a.id) ≡ Some bytes → a.len ≤ length bytes
    → Appended (main a.id) count piece old new
    → (n : Name) → known_of (Some a) new.image n ≡ known_of (Some a) old.image n
known_behind a count piece bytes old new is inside b n =
    let now : at new.image (main a.id) ≡ Some (bytes ++ take count piece) =
    rw (b.image, at-changed, is) refl in
    known_same a a old.image new.image refl
    (rw (now, is) (ap Some (take-append-le a.len bytes (take count piece) inside)))
    (λ m other. (appended_frame (main a.id) m count piece old new other b).image) n

cut_twice : (len : ℕ) (o : Option (List ℕ)) → option_map (take len) (option_map (λ b. take len b) o)
    ≡ option_map (take len) o
cut_twice len None = refl
cut_twice len (Some bytes) = ap Some (take-take len len bytes (omega arith))

-- nor does the cut that mends it
pub known_cut : (a : ActiveFile) (old new : Told) → Cut (main a.id) a.len old new
    → (n : Name) → known_of (Some a) new.image n ≡ known_of (Some a) old.image n
known_cut a old new b n =
    known_same a a old.image new.image refl
    (rw (b.image, at-changed) (cut_twice a.len (at old.image (main a.id))))
    (λ m other. (cut_frame (main a.id) m a.len old new other b).image) n

-- a file's bytes with more behind them
abbrev pub with_more : Name → List ℕ → Reading → Reading
with_more n piece r m = cond (same m n) (option_map (λ b. b ++ piece) (r m)) (r m)

with_more_here : (n : Name) (piece : List ℕ) (r : Reading) (bytes : List ℕ) → r n ≡ Some bytes
    → with_more n piece r n ≡ Some (bytes ++ piece)
with_more_here n piece r bytes is = rw (same_refl n, is) refl

with_more_other : (n m : Name) (piece : List ℕ) (r : Reading) → same m n ≡ false
    → with_more n piece r m ≡ r m
with_more_other n m piece r other = rw other refl

-- an append that went through makes its bytes known
pub known_more : (a : ActiveFile) (piece bytes : List ℕ) (old new : Told)
    → at old.image (main a.id) ≡ Some bytes → a.len ≡ length bytes
    → Appended (main a.id) (length piece) piece old new
    → (n : Name) → known_of (Some (record { id = a.id; len = a.len + length piece })) new.image n
    ≡ with_more (main a.id) piece (known_of (Some a) old.image) n
known_more a piece bytes old new is whole b =
    let more : ActiveFile = record { id = a.id; len = a.len + length piece } in
    let all : take (length piece) piece ≡ piece = take_all (length piece) piece (omega arith) in
    let now : at new.image (main a.id) ≡ Some (bytes ++ piece) =
    rw (b.image, at-changed, is) (ap (λ (t : List ℕ). Some (bytes ++ t)) all) in
    let known : take (a.len + length piece) (bytes ++ piece) ≡ bytes ++ piece =
    take_all (a.len + length piece) (bytes ++ piece) (omega (arith, length-append bytes piece)) in
    let before : take a.len bytes ≡ bytes = take_all a.len bytes (omega arith) in
    let then : known_of (Some a) old.image (main a.id) ≡ Some bytes = known_here a old.image
    ∙ rw is (ap Some before) in
    by_name (λ n. known_of (Some more) new.image n
    ≡ with_more (main a.id) piece (known_of (Some a) old.image) n) (main a.id)
    (known_here more new.image ∙ rw now (ap Some known)
    ∙ sym (with_more_here (main a.id) piece (known_of (Some a) old.image) bytes then))
    (λ n other. known_other more new.image n other
    ∙ (appended_frame (main a.id) n (length piece) piece old new other b).image
    ∙ sym (known_other a old.image n other)
    ∙ sym (with_more_other (main a.id) n piece (known_of (Some a) old.image) other))

-- the records that the active file is known to hold
pub known_records : (image : Image) (fronts : Table Front) (books : Books) (a : ActiveFile)
    (settled recent tried : List Write)
    → Core image fronts books (Some a) settled recent tried
    → known_of (Some a) image (main a.id) ≡ Some (records_of (books (main a.id) ++ recent))
known_records image fronts books a settled recent tried core =
    let act : IsActiveFile a image fronts books recent tried = core.has_active in
    let here : List ℕ = records_of (books (main a.id) ++ recent) in
    known_here a image ∙ ap (option_map (take a.len)) act.bytes
    ∙ ap Some (take_at here (take act.through (records_of tried)) a.len (sym act.known))
