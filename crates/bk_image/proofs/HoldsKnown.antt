-- The known bytes through the calls of an event: only an append that went through adds to them.
use Rattle.std.proofs.Common.{◌≡◌, ℕ, ◌+◌, ◌≤◌, Bool, true, false, cond, List, [], ◌++◌, length}
use Rattle.std.proofs.Common.{take, drop, Option, None, Some, refl, sym, ap, ◌∙◌, arith, inl, inr}
use Rattle.std.proofs.Common.{length-append}
use Rattle.std.specs.Option.{is_some, option_map, unwrap_or}
use Rattle.std.proofs.lemmas.Bool.{cases_lt, true≢false}
use Rattle.std.proofs.lemmas.List.{append-nil, drop-append-le, drop_at, length-drop, length-take}
use Rattle.std.proofs.lemmas.List.{length-take-le, take-append-le, take_all}
use Rattle.bk_base.specs.declared.names.Name.{Name}
use Rattle.bk_base.specs.declared.writes.Write.{Write}
use Rattle.bk_laws.specs.Record.{records_of}
use Rattle.bk_disk.specs.Names.{same}
use Rattle.bk_disk.specs.Told.{Image, Told, at, bytes_of}
use Rattle.bk_disk.specs.Calls.{Appended, Cut, Made}
use Rattle.bk_disk.proofs.Names.{same_eq, same_refl}
use Rattle.bk_image.specs.Readings.{Reading, bytes_in, main}
use Rattle.bk_image.specs.Core.{ActiveFile, IsOther}
use Rattle.bk_image.specs.Holds.{Holds, Shape}
use Rattle.bk_image.specs.Known.{KnowsSame, known_of}
use Rattle.bk_image.proofs.CoreEvents.{grown_by}
use Rattle.bk_image.proofs.HoldsEvents.{cut_at_rest}
use Rattle.bk_image.proofs.HoldsFrames.{above_active, bytes_as}
use Rattle.bk_image.proofs.HoldsRolls.{made_next}
use Rattle.bk_image.proofs.OneName.{by_name}
use Rattle.bk_image.proofs.KnownBytes.{known_behind, known_cut, known_here, known_more, known_other}

-- ---- by the reading alone

known_at : (active : Option ActiveFile) (i j : Image) (n : Name) → at i n ≡ at j n
    → known_of active i n ≡ known_of active j n
known_at None i j n is = is
known_at (Some a) i j n is =
    ap (λ (o : Option (List ℕ)). cond (same n (main a.id)) (option_map (take a.len) o) o) is

known_beside : (active : Option ActiveFile) (i : Image) (n : Name) → IsOther active n
    → known_of active i n ≡ at i n
known_beside None i n other = refl
known_beside (Some a) i n other = known_other a i n other

take_known : (len : ℕ) (o : Option (List ℕ))
    → unwrap_or (option_map (take len) o) [] ≡ take len (unwrap_or o [])
take_known len None = sym (take_all len [] (omega arith))
take_known len (Some bytes) = refl

knows_here : (a : ActiveFile) (i : Image)
    → bytes_in (known_of (Some a) i) (main a.id) ≡ take a.len (bytes_of (main a.id) i)
knows_here a i = bytes_as (known_here a i) ∙ take_known a.len (at i (main a.id))

-- ---- what stays

pub knows_still : {old new : Image} (active : Option ActiveFile) → new ≡ old
    → KnowsSame (known_of active old) (known_of active new)
knows_still active still n = ap (λ (i : Image). bytes_in (known_of active i) n) still

pub knows_cut : {old new : Told} (a : ActiveFile) → Cut (main a.id) a.len old new
    → KnowsSame (known_of (Some a) old.image) (known_of (Some a) new.image)
knows_cut {old} {new} a b n = bytes_as (known_cut a old new b n)

module _ {J : Shape → Type 0} {t : Told} {a : ActiveFile} {last : ℕ} {log : List Write} {kept : ℕ}
    {tried : List Write} where
  abbrev bytes_here : Holds J t (Some a) last log kept tried → List ℕ
  bytes_here h =
      records_of (h.books (main a.id) ++ h.recent)
      ++ take h.core.has_active.through (records_of tried)

  -- the active file has no fewer bytes than are known
  inside : (h : Holds J t (Some a) last log kept tried) → a.len ≤ length (bytes_here h)
  inside h =
      let file = h.core.has_active in
      omega (
        arith,
        file.known,
        length-append (records_of (h.books (main a.id) ++ h.recent))
            (take file.through (records_of tried)),
      )

  pub knows_part : {new : Told} (count : ℕ) (piece : List ℕ)
      → Holds J t (Some a) last log kept tried → Appended (main a.id) count piece t new
      → KnowsSame (known_of (Some a) t.image) (known_of (Some a) new.image)
  knows_part {new} count piece h b n =
      bytes_as (known_behind a count piece _ t new h.core.has_active.bytes (inside h) b n)

  -- the known bytes of the active file are as many as it is said to have
  pub knows_length : Holds J t (Some a) last log kept tried
      → length (bytes_in (known_of (Some a) t.image) (main a.id)) ≡ a.len
  knows_length h =
      let is = ap (take a.len) (bytes_as h.core.has_active.bytes) in
      ap length (knows_here a t.image ∙ is) ∙ length-take-le a.len _ (inside h)

-- where nothing is tried each file is known whole
pub knows_whole : {J : Shape → Type 0} {t : Told} (active : Option ActiveFile) {last : ℕ}
    {log : List Write} {kept : ℕ} → Holds J t active last log kept [] → (n : Name)
    → bytes_in (known_of active t.image) n ≡ bytes_of n t.image
knows_whole None h n = refl
knows_whole {t = t} (Some a) h n =
    by_name (λ m. bytes_in (known_of (Some a) t.image) m ≡ bytes_of m t.image) (main a.id)
    (knows_here a t.image ∙ sym (cut_at_rest h))
    (λ m other. bytes_as (known_other a t.image m other)) n

-- ---- a new file

pub knows_made : {J : Shape → Type 0} {old new : Told} {active : Option ActiveFile} {last : ℕ}
    {log : List Write} {kept : ℕ} {tried : List Write} → Holds J old active last log kept tried
    → Made (main (last + 1)) false old new
    → KnowsSame (known_of active old.image) (known_of active new.image)
knows_made {old = old} {new = new} {active = active} {last = last} h b n =
    let next = main (last + 1) in
    let made = made_next (last + 1) (omega arith) h b in
    let other = above_active active next last (omega arith) h.within in
    let now = bytes_as (known_beside active new.image next other ∙ made.image) in
    let was = bytes_as (known_beside active old.image next other)
    ∙ h.free.empty (last + 1) (omega arith) in
    by_name
    (λ m. bytes_in (known_of active new.image) m ≡ bytes_in (known_of active old.image) m) next
    (now ∙ sym was)
    (λ m other. bytes_as (known_at active new.image old.image m (made.others m other).image)) n

pub knows_rolled : {J : Shape → Type 0} {old new : Told} (active : Option ActiveFile) {last : ℕ}
    {log : List Write} {kept : ℕ} → Holds J old active last log kept []
    → Made (main (last + 1)) false old new
    → KnowsSame (known_of active old.image)
    (known_of (Some (record { id = last + 1; len = 0 })) new.image)
knows_rolled {old = old} {new = new} active {last} h b n =
    let next : ActiveFile = record { id = last + 1; len = 0 } in
    let made = made_next (last + 1) (omega arith) h b in
    let was = knows_whole active h (main (last + 1)) ∙ h.free.empty (last + 1) (omega arith) in
    by_name
    (λ m. bytes_in (known_of (Some next) new.image) m ≡ bytes_in (known_of active old.image) m)
    (main (last + 1)) (knows_here next new.image ∙ sym was)
    (λ m other.
    bytes_as (known_other next new.image m other ∙ (made.others m other).image)
    ∙ sym (knows_whole active h m)) n

-- ---- the append

-- these bytes came to the file
pub record KnowsMore (n : Name) (piece : List ℕ) (r s : Reading) : Type 0 where
  pub more : (m : Name) → bytes_in s m ≡ cond (same m n) (bytes_in r m ++ piece) (bytes_in r m)

more_bytes : (here : Bool) (piece : List ℕ) (o : Option (List ℕ)) → (here ≡ true → is_some o ≡ true)
    → unwrap_or (cond here (option_map (λ b. b ++ piece) o) o) []
    ≡ cond here (unwrap_or o [] ++ piece) (unwrap_or o [])
more_bytes false piece o there = refl
more_bytes true piece (Some bytes) there = refl
more_bytes true piece None there = absurd (true≢false (sym (there refl)))

pub knows_more : {J : Shape → Type 0} {old new : Told} {a : ActiveFile} {last : ℕ}
    {log : List Write} {kept : ℕ} (piece : List ℕ) → Holds J old (Some a) last log kept []
    → Appended (main a.id) (length piece) piece old new
    → KnowsMore (main a.id) piece (known_of (Some a) old.image)
    (known_of (Some (grown_by (length piece) a)) new.image)
knows_more {old = old} {new = new} {a = a} piece h b =
    let file = h.core.has_active in
    let records = records_of (h.books (main a.id) ++ h.recent) in
    let none = take_all file.through [] (omega arith) in
    let bytes : at old.image (main a.id) ≡ Some records =
    file.bytes ∙ ap Some (ap (λ (l : List ℕ). records ++ l) none ∙ append-nil records) in
    let r = known_of (Some a) old.image in
    let there : is_some (r (main a.id)) ≡ true =
    ap is_some
    (known_here a old.image ∙ ap (λ (o : Option (List ℕ)). option_map (take a.len) o) bytes) in
    record {
      more = λ m.
          bytes_as (known_more a piece records old new bytes file.known b m)
          ∙ more_bytes (same m (main a.id)) piece (r m)
          (λ p. ap (λ (k : Name). is_some (r k)) (same_eq m (main a.id) p) ∙ there);
    }

-- ---- the text of a version

-- a range of bytes that is there whole stays where more come behind them
pub range_stays : (from size : ℕ) (bytes more : List ℕ)
    → length (take size (drop from bytes)) ≡ size
    → take size (drop from (bytes ++ more)) ≡ take size (drop from bytes)
range_stays from size bytes more whole =
    let within : size ≤ length (drop from bytes) = omega
    (arith, whole, length-take size (drop from bytes)) in
    elim (cases_lt from (length bytes)) [
      | inl lt ↦
          ap (take size) (drop-append-le from bytes more (omega (arith, lt)))
          ∙ take-append-le size (drop from bytes) more within
      | inr ge ↦
          let none : size ≡ 0 = omega (arith, within, ge, length-drop from bytes) in
          ap (λ (n : ℕ). take n (drop from (bytes ++ more))) none
          ∙ sym (ap (λ (n : ℕ). take n (drop from bytes)) none)
    ]

module _ {n : Name} {piece : List ℕ} {r s : Reading} where
  -- what was read of a file is read again
  pub reads_still : (m : Name) (from size : ℕ) (text : List ℕ) → KnowsMore n piece r s
      → length text ≡ size → take size (drop from (bytes_in r m)) ≡ text
      → take size (drop from (bytes_in s m)) ≡ text
  reads_still m from size text knows long was =
      ap (λ (bytes : List ℕ). take size (drop from bytes)) (knows.more m) ∙ go (same m n) where
        go : (here : Bool)
            → take size (drop from (cond here (bytes_in r m ++ piece) (bytes_in r m))) ≡ text
        go false = was
        go true = range_stays from size (bytes_in r m) piece (ap length was ∙ long) ∙ was

  -- and what came stands behind what was known
  pub reads_piece : (len : ℕ) → KnowsMore n piece r s → length (bytes_in r n) ≡ len
      → take (length piece) (drop len (bytes_in s n)) ≡ piece
  reads_piece len knows is =
      let here = λ (b : Bool). cond b (bytes_in r n ++ piece) (bytes_in r n) in
      let now : bytes_in s n ≡ bytes_in r n ++ piece = knows.more n ∙ ap here (same_refl n) in
      ap (λ (bytes : List ℕ). take (length piece) (drop len bytes)) now
      ∙ ap (take (length piece)) (drop_at (bytes_in r n) piece len is)
      ∙ take_all (length piece) piece (omega arith)
