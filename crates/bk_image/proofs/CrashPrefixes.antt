-- From one core: the image as it reads has the map of the log, and so has each image that a crash may
-- leave, of a prefix.
use Rattle.std.proofs.Common.{◌≡◌, ℕ, ◌+◌, ◌<◌, ◌≤◌, false, cond, List, [], ◌∷◌, ◌++◌, length, take}
use Rattle.std.proofs.Common.{drop, Option, Some, None, refl, sym, ap, subst, ◌∙◌, append_assoc}
use Rattle.std.proofs.Common.{arith, inl, inr}
use Rattle.std.specs.List.{AllByRecursion}
use Rattle.std.specs.Option.{is_some, option_map, unwrap_or}
use Rattle.std.proofs.Math.Seq.{take-append-add}
use Rattle.std.proofs.lemmas.Bool.{cases_lt}
use Rattle.std.proofs.lemmas.List.{append-nil, length-append, take-append-drop}
use Rattle.bk_base.specs.declared.names.Name.{Name}
use Rattle.bk_base.specs.declared.writes.Write.{Write}
use Rattle.bk_laws.specs.Log.{IsLog, SameMap}
use Rattle.bk_laws.specs.Record.{AreRecords, IsWritable, record_of, records_of}
use Rattle.bk_disk.specs.Names.{same}
use Rattle.bk_disk.specs.Told.{Front, Image, Table, at, bytes_of}
use Rattle.bk_disk.specs.Crashes.{Keeps, MayLeave}
use Rattle.bk_disk.proofs.Leaves.{left_at, left_there, left_whole}
use Rattle.bk_disk.proofs.Names.{same_refl}
use Rattle.bk_image.specs.Readings.{Books, Reading, added, bytes_in, hint, main, main_temp, swap}
use Rattle.bk_image.specs.Readings.{synced_of}
use Rattle.bk_image.specs.CountedFiles.{SamePlaces}
use Rattle.bk_image.specs.RecoveredLog.{Safe}
use Rattle.bk_image.specs.Chance.{NoChanceIn}
use Rattle.bk_image.specs.Prefix.{MeetsPrefix, Prefix}
use Rattle.bk_image.specs.Core.{ActiveFile, Core, HasActive, IsActiveFile, IsOther, IsSettledAt}
use Rattle.bk_image.specs.Core.{RestsAt}
use Rattle.bk_image.proofs.Chances.{begins_take, fit-append, fit-left, fit-right, leaves_first}
use Rattle.bk_image.proofs.Chances.{some_bytes, some_records}
use Rattle.bk_image.proofs.CoreEvents.{close}
use Rattle.bk_image.proofs.CoreFrames.{other_than, ours_by_count, ours_by_kind, there_synced}
use Rattle.bk_image.proofs.Logs.{rises-front}
use Rattle.bk_image.proofs.OneName.{by_name, none_of}
use Rattle.bk_image.proofs.Places.{counts_same, other_kind, places_sym}
use Rattle.bk_image.proofs.SafeMoves.{safe_frame}
use Rattle.bk_image.proofs.SafeSteps.{safe_more}

-- ---- a reading that has the synced bytes of all files but the active one and those that are lent

pub record ReadsSettled (fronts : Table Front) (active : Option ActiveFile)
    (r : Reading) : Type 0 where
  pub there : (n : Name) → is_some (r n) ≡ is_some (at fronts n)
  pub rests : (n : Name) (f : Front) → IsOther active n → at fronts n ≡ Some f → f.lent ≡ false
      → r n ≡ Some f.synced

reads_by : (fronts : Table Front) (active : Option ActiveFile) (r : Reading) (n : Name)
    (o : Option Front)
    → ReadsSettled fronts active r → IsOther active n → at fronts n ≡ o
    → ((f : Front) → at fronts n ≡ Some f → f.lent ≡ false)
    → r n ≡ option_map (λ (f : Front). f.synced) o
reads_by fronts active r n None reads other is ours = none_of (r n) (reads.there n ∙ ap is_some is)
reads_by fronts active r n (Some f) reads other is ours = reads.rests n f other is (ours f is)

-- a file that isn't lent
reads_synced : (fronts : Table Front) (active : Option ActiveFile) (r : Reading) (n : Name)
    → ReadsSettled fronts active r → IsOther active n
    → ((f : Front) → at fronts n ≡ Some f → f.lent ≡ false) → r n ≡ synced_of fronts n
reads_synced fronts active r n reads other ours =
    reads_by fronts active r n (at fronts n) reads other refl ours

-- the reading, and of the active file the synced bytes
abbrev but_synced : Table Front → ActiveFile → Reading → Reading
but_synced fronts a r n = cond (same n (main a.id)) (synced_of fronts n) (r n)

but_synced-here : (fronts : Table Front) (a : ActiveFile) (r : Reading)
    → but_synced fronts a r (main a.id) ≡ synced_of fronts (main a.id)
but_synced-here fronts a r = rw (same_refl (main a.id)) refl

but_synced-other : (fronts : Table Front) (a : ActiveFile) (r : Reading) (n : Name)
    → same n (main a.id) ≡ false
    → but_synced fronts a r n ≡ r n
but_synced-other fronts a r n other = rw other refl

-- it reads as settled, the active file included
but_synced-settled : (fronts : Table Front) (a : ActiveFile) (r : Reading)
    → ReadsSettled fronts (Some a) r
    → ReadsSettled fronts None (but_synced fronts a r)
but_synced-settled fronts a r reads = record {
  there = by_name (λ n. is_some (but_synced fronts a r n) ≡ is_some (at fronts n)) (main a.id)
      (ap is_some (but_synced-here fronts a r) ∙ there_synced fronts (main a.id))
      (λ n other. ap is_some (but_synced-other fronts a r n other) ∙ reads.there n);
  rests = λ n f _ is ours.
      by_name (λ n. at fronts n ≡ Some f → but_synced fronts a r n ≡ Some f.synced) (main a.id)
      (λ is. but_synced-here fronts a r ∙ ap (option_map (λ (f : Front). f.synced)) is)
      (λ n other is. but_synced-other fronts a r n other ∙ reads.rests n f other is ours) n is;
}

-- ---- of such a reading a prefix is recovered

front_of_log : (settled recent tried : List Write) (n : ℕ)
    → take (length settled + n) ((settled ++ recent) ++ tried) ≡ settled ++ take n (recent ++ tried)
front_of_log settled recent tried n =
    ap (take (length settled + n)) (append_assoc settled recent tried)
    ∙ take-append-add settled (recent ++ tried) n

prefix_of : (image : Image) (books : Books) (settled recent tried : List Write) (kept n : ℕ)
    → Safe (at image) books (settled ++ take n (recent ++ tried)) → n ≤ length (recent ++ tried)
    → kept ≤ length settled + n
    → Prefix image (settled ++ recent) kept tried
prefix_of image books settled recent tried kept n safe bound low = record {
  found = safe.base;
  sound = record { books = books; recovers = safe.recovers; hints = safe.hints };
  part = record {
    n = length settled + n;
    low = low;
    high = omega (
      arith,
      bound,
      length-append settled (recent ++ tried),
      ap length (append_assoc settled recent tried),
    );
    same_map = subst (λ (ws : List Write). SameMap safe.base ws)
        (sym (front_of_log settled recent tried n)) safe.same_map;
  };
}

rises_so_far : (settled recent tried : List Write) (n : ℕ) → IsLog (settled ++ (recent ++ tried))
    → IsLog (settled ++ take n (recent ++ tried))
rises_so_far settled recent tried n rises =
    let all = recent ++ tried in
    rises-front 0 (settled ++ take n all) (drop n all)
    (subst IsLog (ap (λ (ws : List Write). settled ++ ws) (sym (take-append-drop n all))
    ∙ sym (append_assoc settled (take n all) (drop n all))) rises)

-- some bytes were handed
pending_some : (ws : List Write) (bytes : List ℕ) → 0 < length ws → bytes ≡ records_of ws
    → 0 < length bytes
pending_some [] bytes some is = absurd (omega arith)
pending_some (w ∷ ws) bytes some is =
    omega (arith, ap length is, length-append (record_of w) (records_of ws), some_bytes w)

no_write : (ws : List Write) → length ws ≤ 0 → ws ≡ []
no_write [] none = refl
no_write (w ∷ ws) none = absurd (omega arith)

-- ---- what a core says of such a reading

module _ {image : Image} {fronts : Table Front} {books : Books} {settled recent tried : List Write}
  where
    -- the same files count
    settled_places : (active : Option ActiveFile) (r : Reading)
        → Core image fronts books active settled recent tried → ReadsSettled fronts active r
        → SamePlaces (synced_of fronts) r
    settled_places active r core reads = record {
      mains = λ id. there_synced fronts (main id) ∙ sym (reads.there (main id));
      temps = λ id. there_synced fronts (main_temp id) ∙ sym (reads.there (main_temp id));
      lists = λ id. sym (reads_synced fronts active r (swap id) reads
          (other_than active (swap id) (λ a. other_kind (swap id) (main a.id) refl))
          (ours_by_kind fronts core.lent (swap id) refl));
    }

    -- and have the hints that they had
    settled_hints : (active : Option ActiveFile) (r : Reading)
        → Core image fronts books active settled recent tried → ReadsSettled fronts active r
        → (id : ℕ) → r (hint id) ≡ synced_of fronts (hint id)
    settled_hints active r core reads id =
        reads_synced fronts active r (hint id) reads
        (other_than active (hint id) (λ a. other_kind (hint id) (main a.id) refl))
        (ours_by_kind fronts core.lent (hint id) refl)

    -- without an active file nothing else counts that differs
    safe_reading : (r : Reading) → Core image fronts books None settled recent tried
        → ReadsSettled fronts None r → Safe r books settled
    safe_reading r core reads =
        let s : Reading = synced_of fronts in
        let places : SamePlaces s r = settled_places None r core reads in
        safe_frame s r books settled (record {
          counted = λ n c. counts_same r s n (places_sym s r places) c;
          counts = λ n c. counts_same s r n places c;
          bytes = λ n c. ap (λ (o : Option (List ℕ)). unwrap_or o [])
              (reads_synced fronts None r n reads tt (ours_by_count fronts core.lent n c));
          hints = λ n b c is. sym (settled_hints None r core reads n.id) ∙ is;
        }) core.safe

    -- all files as they are synced, and more records in the active one
    safe_active : (a : ActiveFile) (more : List Write) (r : Reading)
        → Core image fronts books (Some a) settled recent tried → ReadsSettled fronts (Some a) r
        → AreRecords (bytes_in r (main a.id)) (books (main a.id) ++ more) → IsLog (settled ++ more)
        → Safe r (added (main a.id) more books) (settled ++ more)
    safe_active a more r core reads are rises =
        let act : IsActiveFile a image fronts books recent tried = core.has_active in
        let s : Reading = synced_of fronts in
        let t : Reading = but_synced fronts a r in
        let calm : ReadsSettled fronts None t = but_synced-settled fronts a r reads in
        let places : SamePlaces s t = record {
          mains = λ id. there_synced fronts (main id) ∙ sym (calm.there (main id));
          temps = λ id. there_synced fronts (main_temp id) ∙ sym (calm.there (main_temp id));
          lists = λ id. (settled_places (Some a) r core reads).lists id
              ∙ sym (but_synced-other fronts a r (swap id) (other_kind (swap id) (main a.id) refl));
        } in
        let t_hint : (id : ℕ) → t (hint id) ≡ s (hint id) = λ id.
        but_synced-other fronts a r (hint id) (other_kind (hint id) (main a.id) refl)
        ∙ settled_hints (Some a) r core reads id in
        let safe : Safe t books settled = safe_frame s t books settled (record {
          counted = λ n c. counts_same t s n (places_sym s t places) c;
          counts = λ n c. counts_same s t n places c;
          bytes = λ n c. ap (λ (o : Option (List ℕ)). unwrap_or o [])
              (reads_synced fronts None t n calm tt (ours_by_count fronts core.lent n c));
          hints = λ n b c is. sym (t_hint n.id) ∙ is;
        }) core.safe in
        let others : (n : Name) → same n (main a.id) ≡ false
        → r n ≡ t n = λ n other. sym (but_synced-other fronts a r n other) in
        safe_more t r books settled more a.id
        (record {
          counts = counts_same s t (main a.id) places act.counts;
          no_hint = t_hint a.id ∙ ap (option_map (λ (f : Front). f.synced)) act.no_hint;
          there = reads.there (main a.id) ∙ ap is_some act.is;
          reads = are;
          others = others;
        }) rises safe

    -- a file that holds its book has records that can be written
    book_fits : (a : ActiveFile) → Core image fronts books (Some a) settled recent tried
        → AllByRecursion IsWritable (books (main a.id))
    book_fits a core =
        let act : IsActiveFile a image fronts books recent tried = core.has_active in
        (core.safe.recovers.reads (main a.id) act.counts).fit

    -- where all is settled, each such reading has the whole log
    settled_prefix : (left : Image) (kept : ℕ) → Core image fronts books None settled recent tried
        → ReadsSettled fronts None (at left) → kept ≤ length settled
        → Prefix left (settled ++ recent) kept tried
    settled_prefix left kept core reads low =
        let safe : Safe (at left) books (settled ++ take 0 (recent ++ tried)) =
        subst (λ (ws : List Write). Safe (at left) books ws) (sym (append-nil settled))
        (safe_reading (at left) core reads) in
        prefix_of left books settled recent tried kept 0 safe (omega arith) (omega (arith, low))

    -- the image as it reads is such a reading
    now_settled : (active : Option ActiveFile) → Core image fronts books active settled recent tried
        → ReadsSettled fronts active (at image)
    now_settled active core = record {
      there = λ n. there_now active n core.has_active core.others;
      rests = λ n f other is ours.
          (subst (λ (o : Option Front). RestsAt (at image n) o) is (core.others n other)).reads
          ours;
    } where
      there_rests : (b : Option (List ℕ)) (o : Option Front) → RestsAt b o → is_some b ≡ is_some o
      there_rests b None rests = ap is_some rests
      there_rests b (Some f) rests = rests.there

      there_now : (active : Option ActiveFile) (n : Name)
          → HasActive active image fronts books recent tried
          → ((m : Name) → IsOther active m → RestsAt (at image m) (at fronts m))
          → is_some (at image n) ≡ is_some (at fronts n)
      there_now None n has others = there_rests (at image n) (at fronts n) (others n tt)
      there_now (Some a) n has others =
          by_name (λ m. is_some (at image m) ≡ is_some (at fronts m)) (main a.id)
          (ap is_some has.bytes ∙ sym (ap is_some has.is))
          (λ m other. there_rests (at image m) (at fronts m) (others m other)) n

    -- so is each image that a crash leaves
    left_settled : (active : Option ActiveFile) (left : Image)
        → Core image fronts books active settled recent tried → MayLeave fronts left
        → ReadsSettled fronts active (at left)
    left_settled active left core may = record {
      there = λ n. left_there n fronts left may;
      rests = λ n f other is ours.
          let rests : IsSettledAt (at image n) f =
          subst (λ (o : Option Front). RestsAt (at image n) o) is (core.others n other) in
          left_whole n f fronts left may is ours (rests.whole ours);
    }

    -- of bytes that were handed to the active file a crash leaves some first records
    crash_active : (a : ActiveFile) (kept : ℕ)
        → Core image fronts books (Some a) settled recent tried
        → kept ≤ length settled → 0 < length (recent ++ tried)
        → MeetsPrefix (settled ++ recent) kept tried fronts
    crash_active a kept core low some left may no_chance =
        let act : IsActiveFile a image fronts books recent tried = core.has_active in
        let book : List Write = books (main a.id) in
        let (bytes, is, may_here) = left_at (main a.id) act.front fronts left may act.is in
        let keeps : Keeps act.front bytes = may_here.keeps act.ours in
        let here : bytes_of (main a.id) left ≡ bytes =
        ap (λ (o : Option (List ℕ)). unwrap_or o []) is in
        let begins : take (length (records_of book)) bytes ≡ records_of book =
        subst (λ (b : List ℕ). take (length b) bytes ≡ b) act.synced keeps.synced in
        let no_match : NoChanceIn (act.front.synced ++ act.front.pending)
        (bytes_of (main a.id) left) =
        no_chance (main a.id) act.front act.is act.ours
        (pending_some (recent ++ tried) act.front.pending some act.pending) in
        let no_match_here : NoChanceIn (records_of book ++ records_of (recent ++ tried)) bytes =
        subst (λ (b : List ℕ). NoChanceIn (b ++ records_of (recent ++ tried)) bytes) act.synced
        (subst (λ (b : List ℕ). NoChanceIn (act.front.synced ++ b) bytes) act.pending
        (subst (λ (b : List ℕ). NoChanceIn (act.front.synced ++ act.front.pending) b) here
        no_match))
        in
        let (n, bound, are) = leaves_first book (recent ++ tried) bytes
        (book_fits a core) core.fit
        (begins_take bytes (records_of book) begins) no_match_here in
        let are_left : AreRecords (bytes_in (at left) (main a.id))
        (book ++ take n (recent ++ tried)) =
        subst (λ (b : List ℕ). AreRecords b (book ++ take n (recent ++ tried))) (sym here) are in
        let safe = safe_active a (take n (recent ++ tried))
        (at left) core
        (left_settled (Some a) left core may) are_left
        (rises_so_far settled recent tried n core.rises) in
        prefix_of left
        (added (main a.id) (take n (recent ++ tried)) books) settled recent tried kept
        n
        safe bound (omega (arith, low))

-- ---- a prefix now, and after a crash

-- the image as it reads: the whole log, and perhaps some of what was tried
pub stands_now : (image : Image) (fronts : Table Front) (books : Books) (active : Option ActiveFile)
    (settled recent tried : List Write)
    → Core image fronts books active settled recent tried
    → Prefix image (settled ++ recent) (length (settled ++ recent)) tried
stands_now image fronts books None settled recent tried core =
    let none : recent ++ tried ≡ [] = core.has_active in
    settled_prefix image (length (settled ++ recent)) core (now_settled None core)
    (omega (arith, ap length none, length-append recent tried, length-append settled recent))
stands_now image fronts books (Some a) settled recent tried core =
    let act : IsActiveFile a image fronts books recent tried = core.has_active in
    let book : List Write = books (main a.id) in
    let fit : AllByRecursion IsWritable (book ++ recent) =
    fit-append book recent (book_fits a core)
    (fit-left recent tried core.fit) in
    let (n, bound, are) = some_records (book ++ recent) tried act.through fit
    (fit-right recent tried core.fit) in
    let part : take (length recent + n) (recent ++ tried) ≡ recent ++ take n tried =
    take-append-add recent tried n in
    let are_now : AreRecords (bytes_in (at image) (main a.id))
    (book ++ take (length recent + n) (recent ++ tried)) =
    rw act.bytes (subst (λ (ws : List Write). AreRecords
    (records_of (book ++ recent) ++ take act.through (records_of tried)) ws)
    (append_assoc book recent (take n tried) ∙ ap (λ (ws : List Write). book ++ ws) (sym part)) are)
    in
    let safe = safe_active a (take (length recent + n) (recent ++ tried)) (at image) core
    (now_settled (Some a) core) are_now
    (rises_so_far settled recent tried (length recent + n) core.rises) in
    prefix_of image (added (main a.id) (take (length recent + n) (recent ++ tried)) books) settled
    recent tried
    (length (settled ++ recent)) (length recent + n) safe
    (omega (arith, bound, length-append recent tried)) (omega (arith, length-append settled recent))

-- where all is settled a crash leaves the whole log, and no chance match has a say
pub crash_meets_at_rest : (image : Image) (fronts : Table Front) (books : Books)
    (active : Option ActiveFile) (settled recent tried : List Write)
    → Core image fronts books active settled recent tried → recent ++ tried ≡ []
    → (left : Image) → MayLeave fronts left → (kept : ℕ) → kept ≤ length settled
    → Prefix left (settled ++ recent) kept tried
crash_meets_at_rest image fronts books active settled recent tried core at_rest left may kept low =
    let closed = close image fronts books active settled recent tried core at_rest in
    settled_prefix left kept closed (left_settled None left closed may) low

-- each crash meets the prefix
pub crash_meets : (image : Image) (fronts : Table Front) (books : Books)
    (active : Option ActiveFile) (settled recent tried : List Write)
    (kept : ℕ) → Core image fronts books active settled recent tried → kept ≤ length settled
    → MeetsPrefix (settled ++ recent) kept tried fronts
crash_meets image fronts books None settled recent tried kept core low left may no_chance =
    crash_meets_at_rest image fronts books None settled recent tried core core.has_active left may
    kept low
crash_meets image fronts books (Some a) settled recent tried kept core low left may no_chance =
    elim (cases_lt 0 (length (recent ++ tried))) [
      | inl some ↦ crash_active a kept core low some left may no_chance
      | inr none ↦ crash_meets_at_rest image fronts books (Some a) settled recent tried core
          (no_write (recent ++ tried) none) left may kept low
    ]
