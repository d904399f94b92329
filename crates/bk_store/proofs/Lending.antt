-- What is lent of a version is the record of its write.
use Rattle.std.proofs.Common.{◌≡◌, ℕ, ◌+◌, Bool, true, false, cond, List, [], ◌++◌, length, take, drop, Option, Some, None, refl, sym, ap, subst, ◌∙◌, arith}
use Rattle.std.specs.Prelude.{not, ◌&&◌}
use Rattle.std.specs.Int.{w32, to_be_bytes}
use Rattle.std.specs.Option.{is_some, option_map, unwrap_or}
use Rattle.std.proofs.lemmas.Bool.{true≢false}
use Rattle.std.proofs.lemmas.List.{append-nil, append_assoc, drop_at, length-append, take-append-drop}
use Rattle.bk_base.specs.declared.limits.TheConstants.{CHECKSUM, RECORD_HEADER}
use Rattle.bk_base.specs.declared.writes.Body.{Body}
use Rattle.bk_base.specs.declared.writes.Body.TheVariants.{Gone, Put}
use Rattle.bk_base.specs.declared.writes.Version.{Version}
use Rattle.bk_base.specs.declared.writes.Write.{Write}
use Rattle.bk_crc.specs.Crc.{crc_of}
use Rattle.bk_disk.specs.Names.{same}
use Rattle.bk_disk.specs.Told.{Image, at, bytes_of, range_of}
use Rattle.bk_files.specs.Files.{Seen}
use Rattle.bk_image.specs.Known.{known_of}
use Rattle.bk_image.specs.Core.{ActiveFile}
use Rattle.bk_image.specs.Readings.{Reading, bytes_in, main}
use Rattle.bk_image.proofs.Winners.{winner-in}
use Rattle.bk_laws.specs.Log.{is_fresh, live, live_in, winner}
use Rattle.bk_laws.specs.Record.{checksum_of, covered_of, fields_of, record_of, value_of}
use Rattle.bk_store.specs.Appends.{Extends}
use Rattle.bk_store.specs.Loans.{LendsRecord, LendsVersion, LendsWrite, Lent, check_of, is_live}
use Rattle.bk_store.specs.Shown.{active_file, known_bytes}
use Rattle.bk_store.specs.Versions.{KeyStands, VersionStands}
use Rattle.bk_store.proofs.Events.{live_says}
use Rattle.bk_store.proofs.Keys.{key_is}
use Rattle.bk_store.proofs.KeptVersions.{version_stays}
use Rattle.bk_image.proofs.OneName.{none_of}

-- the bytes of a loan of a write have the checksum that they were written with
pub lent_checked : (w : Option Write) (l : Lent) → LendsWrite w (Some l) → check_of l.left ≡ l.crc
lent_checked None l h = absurd h
lent_checked (Some w) l h = h.crc

-- ---- the record

value_behind : (w : Write) → drop (RECORD_HEADER + length w.key) (record_of w) ≡ value_of w.body
unfolding record_of covered_of fields_of
value_behind w =
    let front = to_be_bytes w32 (checksum_of w) ++ (fields_of w ++ w.key) in
    let whole : record_of w ≡ front ++ value_of w.body =
    sym (append_assoc (to_be_bytes w32 (checksum_of w)) (fields_of w ++ w.key) (value_of w.body)) in
    let long : length front ≡ RECORD_HEADER + length w.key =
    omega (arith, length-append (to_be_bytes w32 (checksum_of w)) (fields_of w ++ w.key), length-append (fields_of w) w.key) in
    ap (drop (RECORD_HEADER + length w.key)) whole ∙ drop_at front (value_of w.body) (RECORD_HEADER + length w.key) long

checked : (w : Write) → check_of (record_of w) ≡ checksum_of w
unfolding record_of checksum_of
checked w = ap crc_of (drop_at (to_be_bytes w32 (checksum_of w)) (covered_of w) CHECKSUM refl)

-- ---- the loan

-- the view's bytes are those of the version's record
pub lends_record : (r : Reading) (key : List ℕ) (v : Version) (w : Write) (l : Lent) → VersionStands r v w → v.gone ≡ false
    → LendsVersion key v l → l.left ≡ take v.size (drop v.at (bytes_in r (main v.file.0))) → LendsRecord l w
lends_record r key v w l stands put lends left =
    let text : l.left ≡ record_of w = left ∙ stands.text put in
    record {
      text = text;
      size = lends.size ∙ ap (λ (x : Version). x.size) stands.says;
      crc = ap check_of text ∙ checked w ∙ sym (lends.crc ∙ ap (λ (x : Version). x.crc) stands.says);
    }

-- a live winner's value stands in its record
live_value : (w : Write) (now ttl : ℕ) → is_some (live_in (Some w) now ttl) ≡ true
    → live_in (Some w) now ttl ≡ Some (value_of w.body)
live_value w now ttl is = go w.body is where
  at : (b : Bool) (value : List ℕ) → is_some (cond b (Some value) None) ≡ true → cond b (Some value) None ≡ Some value
  at true value is = refl
  at false value is = absurd (true≢false (sym is))

  go : (b : Body) → is_some (live_in (Some (record w { body = b })) now ttl) ≡ true
      → live_in (Some (record w { body = b })) now ttl ≡ Some (value_of b)
  go (Put value) is = at (is_fresh w.moment.0 now ttl) value is
  go Gone is = absurd (true≢false (sym is))

pub lent_value : (w : Write) (key : List ℕ) (l : Lent) → LendsRecord l w → length w.key ≡ length key
    → l.value_at ≡ RECORD_HEADER + length key → drop l.value_at l.left ≡ value_of w.body
lent_value w key l lends long at =
    ap (λ (b : List ℕ). drop l.value_at b) lends.text
    ∙ ap (λ (n : ℕ). drop n (record_of w)) (at ∙ ap (λ (n : ℕ). RECORD_HEADER + n) (sym long)) ∙ value_behind w

-- ---- the known bytes are the first of those that are there

known_more : (len : ℕ) (o : Option (List ℕ))
    → (more : List ℕ) × (unwrap_or o [] ≡ unwrap_or (option_map (take len) o) [] ++ more)
known_more len None = ([], refl)
known_more len (Some b) = (drop len b, sym (take-append-drop len b))

pub known_extends : (a : Option ActiveFile) (image : Image) → Extends (known_of a image) (at image)
known_extends None image n = ([], sym (append-nil (bytes_of n image)))
known_extends (Some a) image n = go (same n (main a.id)) where
  go : (b : Bool) → (more : List ℕ)
      × (bytes_of n image ≡ unwrap_or (cond b (option_map (take a.len) (at image n)) (at image n)) [] ++ more)
  go true = known_more a.len (at image n)
  go false = ([], sym (append-nil (bytes_of n image)))

-- ---- a get

-- A key's newest version is a live put, and its bytes were lent: the value is the key's.
pub record Finds (log : List Write) (key : List ℕ) (ttl now : ℕ) (l : Lent) : Type 0 where
  pub value : live log key now ttl ≡ Some (drop l.value_at l.left)
  pub record_is : LendsWrite (winner log key) (Some l)

put_live : (ttl now : ℕ) (v : Version) → is_live ttl now (Some v) ≡ true → v.gone ≡ false
put_live ttl now v is = go v.gone is where
  go : (b : Bool) → (not b && is_fresh v.moment.0 now ttl) ≡ true → b ≡ false
  go true h = absurd (true≢false (sym h))
  go false h = refl

pub get_finds : (files : Seen) (log : List Write) (key : List ℕ) (ttl now : ℕ) (v : Version) (l : Lent)
    → KeyStands (known_bytes files) (Some v) (winner log key) → is_live ttl now (Some v) ≡ true → LendsVersion key v l
    → l.left ≡ range_of (main v.file.0) v.at v.size files.told.image → Finds log key ttl now l
get_finds files log key ttl now v l stands is lends left = go (winner log key) refl stands where
  go : (o : Option Write) → winner log key ≡ o → KeyStands (known_bytes files) (Some v) o → Finds log key ttl now l
  go None e h = absurd h
  go (Some w) e h =
      let r = known_bytes files in
      let here = version_stays r (at files.told.image) v w (known_extends (active_file files.catalog.active) files.told.image) h in
      let lent = lends_record (at files.told.image) key v w l here (put_live ttl now v is) lends left in
      let long : length w.key ≡ length key = ap length (key_is w.key key (winner-in log key w e).1) in
      let alive : is_some (live_in (Some w) now ttl) ≡ true = live_says r ttl now (Some v) (Some w) h ∙ is in
      record {
        value = ap (λ (x : Option Write). live_in x now ttl) e ∙ live_value w now ttl alive
            ∙ ap Some (sym (lent_value w key l lent long lends.value_at));
        record_is = subst (λ (x : Option Write). LendsWrite x (Some l)) (sym e) lent;
      }

pub get_finds_none : (files : Seen) (log : List Write) (key : List ℕ) (ttl now : ℕ) (v : Option Version)
    → KeyStands (known_bytes files) v (winner log key) → is_live ttl now v ≡ false → live log key now ttl ≡ None
get_finds_none files log key ttl now v stands is =
    none_of (live log key now ttl) (live_says (known_bytes files) ttl now v (winner log key) stands ∙ is)
