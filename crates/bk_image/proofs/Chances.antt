-- Where no record stands by chance, a crash leaves the records of the front and some of those behind.
use Rattle.std.proofs.Common.{◌≡◌, ℕ, ◌+◌, ◌-◌, ◌<◌, ◌≤◌, ◌⊎◌, suc, Bool, true, false, List, []}
use Rattle.std.proofs.Common.{◌∷◌, ◌++◌, length, take, drop, refl, sym, ap, subst, ◌∙◌}
use Rattle.std.proofs.Common.{append_assoc, arith, inl, inr}
use Rattle.std.specs.List.{AllByRecursion}
use Rattle.std.specs.Str.{bytes_eq}
use Rattle.std.proofs.Math.Seq.{take-append-add}
use Rattle.std.proofs.lemmas.Bool.{cases_lt, true≢false}
use Rattle.std.proofs.lemmas.Slice.Eq.{bytes_eq-Decides}
use Rattle.std.proofs.lemmas.Grind.{flat_map-append}
use Rattle.std.proofs.lemmas.List.{append-nil, drop_at, take_all, take_at, take-append-drop}
use Rattle.std.proofs.lemmas.List.{take-append-le, length-append, length-take, drop-drop}
use Rattle.bk_base.specs.declared.writes.Write.{Write}
use Rattle.bk_laws.specs.Record.{AreRecords, IsWritable, NoRecord, RecordStands, record_of}
use Rattle.bk_laws.specs.Record.{records_of, size_of}
use Rattle.bk_record.proofs.Codec.{length-record_of, one_record}
use Rattle.bk_image.specs.Chance.{Begins, IsRun, NoChanceIn}

-- ---- lists of writes

pub records_of-append : (vs ws : List Write) → records_of (vs ++ ws)
    ≡ records_of vs ++ records_of ws
records_of-append vs ws = flat_map-append record_of vs ws

pub fit-append : (vs ws : List Write) → AllByRecursion IsWritable vs → AllByRecursion IsWritable ws
    → AllByRecursion IsWritable (vs ++ ws)
fit-append [] ws first second = second
fit-append (v ∷ vs) ws first second = (first.0, fit-append vs ws first.1 second)

pub fit-left : (vs ws : List Write) → AllByRecursion IsWritable (vs ++ ws)
    → AllByRecursion IsWritable vs
fit-left [] ws all = tt
fit-left (v ∷ vs) ws all = (all.0, fit-left vs ws all.1)

pub fit-right : (vs ws : List Write) → AllByRecursion IsWritable (vs ++ ws)
    → AllByRecursion IsWritable ws
fit-right [] ws all = all
fit-right (v ∷ vs) ws all = fit-right vs ws all.1

pub fit-take : (n : ℕ) (ws : List Write) → AllByRecursion IsWritable ws
    → AllByRecursion IsWritable (take n ws)
fit-take n ws all = fit-left (take n ws) (drop n ws)
    (subst (λ (l : List Write). AllByRecursion IsWritable l) (sym (take-append-drop n ws)) all)

-- ---- what bytes begin with

pub begins_of : (first rest : List ℕ) → Begins (first ++ rest) first
begins_of first rest = ap (λ (t : List ℕ). first ++ t)
    (sym (drop_at first rest (length first) refl))

pub begins_from : (bytes first rest : List ℕ) → bytes ≡ first ++ rest → Begins bytes first
begins_from bytes first rest is = subst (λ (b : List ℕ). Begins b first) (sym is)
    (begins_of first rest)

pub begins_take : (bytes first : List ℕ) → take (length first) bytes ≡ first → Begins bytes first
begins_take bytes first is =
    sym (take-append-drop (length first) bytes) ∙ ap
    (λ (t : List ℕ). t ++ drop (length first) bytes) is

-- ---- bytes that begin with two lists, one behind the other

pub begins_left : (bytes a b : List ℕ) → Begins bytes (a ++ b) → Begins bytes a
begins_left bytes a b is = begins_from bytes a (b ++ drop (length (a ++ b)) bytes)
    (is ∙ append_assoc a b (drop (length (a ++ b)) bytes))

pub begins_right : (bytes a b : List ℕ) → Begins bytes (a ++ b) → Begins (drop (length a) bytes) b
begins_right bytes a b is =
    let rest = drop (length (a ++ b)) bytes in
    begins_from (drop (length a) bytes) b rest
    (ap (drop (length a)) (is ∙ append_assoc a b rest) ∙ drop_at a (b ++ rest) (length a) refl)

pub begins_both : (bytes a b : List ℕ) → Begins bytes a → Begins (drop (length a) bytes) b
    → Begins bytes (a ++ b)
begins_both bytes a b first second =
    let rest = drop (length b) (drop (length a) bytes) in
    begins_from bytes (a ++ b) rest (first ∙ ap (λ (t : List ℕ). a ++ t) second
    ∙ sym (append_assoc a b rest))

-- it can be tested
begins_by : (bytes first : List ℕ) (is : Bool) → bytes_eq (take (length first) bytes) first ≡ is
    → Begins bytes first ⊎ (Begins bytes first → ⊥)
begins_by bytes first true is = inl (begins_take bytes first
    ((bytes_eq-Decides (take (length first) bytes) first).0 is))
begins_by bytes first false is =
    inr (λ (b : Begins bytes first).
    let front : take (length first) bytes ≡ first =
    ap (take (length first)) b ∙ take_at first (drop (length first) bytes) (length first) refl in
    absurd (true≢false (sym ((bytes_eq-Decides (take (length first) bytes) first).1 front) ∙ is)))

pub begins_or_not : (bytes first : List ℕ) → Begins bytes first ⊎ (Begins bytes first → ⊥)
begins_or_not bytes first = begins_by bytes first (bytes_eq (take (length first) bytes) first) refl

-- ---- the longest run

stands_in : (bytes : List ℕ) (w : Write) → IsWritable w → Begins bytes (record_of w)
    → RecordStands bytes w (drop (length (record_of w)) bytes)
stands_in bytes w fit begins = record { fits = fit; whole = begins }

-- at most one record begins the bytes
one_begins : (bytes : List ℕ) (v w : Write) → IsWritable v → IsWritable w
    → Begins bytes (record_of v) → Begins bytes (record_of w)
    → v ≡ w
one_begins bytes v w fit_v fit_w p q = (one_record bytes v w _ _ (stands_in bytes v fit_v p)
    (stands_in bytes w fit_w q)).0

-- no record stands in both behind the run
abbrev pub NoneBehind : List ℕ → List ℕ → List Write → Type 0
NoneBehind w c run = (x : Write) → IsWritable x
    → Begins (drop (length (records_of run)) w) (record_of x)
    → Begins (drop (length (records_of run)) c) (record_of x) → ⊥

-- what is behind the first record of a run is behind the run of the others
behind : (bytes : List ℕ) (k : Write) (ks : List Write)
    → drop (length (records_of (k ∷ ks))) bytes ≡ drop (length (records_of ks))
    (drop (length (record_of k)) bytes)
behind bytes k ks =
    ap (λ (n : ℕ). drop n bytes) (length-append (record_of k) (records_of ks))
    ∙ sym (drop-drop (length (records_of ks)) (length (record_of k)) bytes)

no_longer : (run other : List Write) (w c : List ℕ) → AllByRecursion IsWritable run
    → AllByRecursion IsWritable other
    → Begins w (records_of run) → Begins w (records_of other) → Begins c (records_of other)
    → NoneBehind w c run
    → length (records_of other) ≤ length (records_of run)
no_longer run [] w c fit_r fit_o of_run of_other held none = omega arith
no_longer [] (o ∷ os) w c fit_r fit_o of_run of_other held none =
    absurd (none o fit_o.0 (begins_left w (record_of o) (records_of os) of_other)
    (begins_left c (record_of o) (records_of os) held))
no_longer (k ∷ ks) (o ∷ os) w c fit_r fit_o of_run of_other held none =
    let is : k ≡ o = one_begins w k o fit_r.0 fit_o.0
    (begins_left w (record_of k) (records_of ks) of_run)
    (begins_left w (record_of o) (records_of os) of_other) in
    let w2 = drop (length (record_of k)) w in
    let c2 = drop (length (record_of k)) c in
    let other_w : Begins w2 (records_of os) =
    subst (λ (x : Write). Begins (drop (length (record_of x)) w) (records_of os)) (sym is)
    (begins_right w (record_of o) (records_of os) of_other) in
    let other_c : Begins c2 (records_of os) =
    subst (λ (x : Write). Begins (drop (length (record_of x)) c) (records_of os)) (sym is)
    (begins_right c (record_of o) (records_of os) held) in
    let none2 : NoneBehind w2 c2 ks = λ x fit p q.
    none x fit (subst (λ (b : List ℕ). Begins b (record_of x)) (sym (behind w k ks)) p)
    (subst (λ (b : List ℕ). Begins b (record_of x)) (sym (behind c k ks)) q) in
    let rest = no_longer ks os w2 c2 fit_r.1 fit_o.1
    (begins_right w (record_of k) (records_of ks) of_run) other_w other_c none2 in
    omega (
      arith,
      rest,
      ap (λ (x : Write). length (record_of x)) is,
      length-append (record_of k) (records_of ks),
      length-append (record_of o) (records_of os),
    )

pub run_of : (run : List Write) (w c : List ℕ) → AllByRecursion IsWritable run
    → Begins w (records_of run)
    → Begins c (records_of run) → NoneBehind w c run → IsRun w c run
run_of run w c fit of_w held none = record {
  kept = record { fit = fit; was = of_w; is = held };
  longest = λ other kept. no_longer run other w c fit kept.fit of_w kept.was kept.is none;
}

-- ---- what a crash leaves

pub some_bytes : (w : Write) → 0 < length (record_of w)
some_bytes w = omega (arith, length-record_of w)

nothing_begins : (w : Write) → Begins [] (record_of w) → ⊥
nothing_begins w begins =
    let rest = drop (length (record_of w)) [] in
    absurd (omega (arith, ap length begins, length-append (record_of w) rest, some_bytes w))

-- the next of the records that were handed stands behind the run, or the run is the longest
none_behind_end : (kept : List Write) (c : List ℕ) → NoneBehind (records_of kept ++ []) c kept
none_behind_end kept c x fit p q =
    nothing_begins x (subst (λ (b : List ℕ). Begins b (record_of x))
    (drop_at (records_of kept) [] (length (records_of kept)) refl) p)

none_behind : (kept : List Write) (m : Write) (ms : List Write) (c : List ℕ) → IsWritable m
    → (Begins (drop (length (records_of kept)) c) (record_of m) → ⊥)
    → NoneBehind (records_of kept ++ records_of (m ∷ ms)) c kept
none_behind kept m ms c fit_m not x fit p q =
    let rest : drop (length (records_of kept)) (records_of kept ++ records_of (m ∷ ms))
    ≡ record_of m ++ records_of ms =
    drop_at (records_of kept) (records_of (m ∷ ms)) (length (records_of kept)) refl in
    let is : x ≡ m = one_begins (record_of m ++ records_of ms) x m fit fit_m
    (subst (λ (b : List ℕ). Begins b (record_of x)) rest p)
    (begins_of (record_of m) (records_of ms)) in
    not (subst (λ (v : Write). Begins (drop (length (records_of kept)) c) (record_of v)) is q)

-- these are the records of the bytes, where no other one stands behind them
are_records : (run : List Write) (w c : List ℕ) → IsRun w c run → NoChanceIn w c → AreRecords c run
are_records run w c is no_chance =
    record { fit = is.kept.fit; held = is.kept.is; ended = no_chance run is }

-- Where no record stands by chance, what a crash left of records of which it keeps the first ones are
-- those and some of the later ones.
pub leaves_first : (kept more : List Write) (c : List ℕ) → AllByRecursion IsWritable kept
    → AllByRecursion IsWritable more
    → Begins c (records_of kept) → NoChanceIn (records_of kept ++ records_of more) c
    → (n : ℕ) × (n ≤ length more) × AreRecords c (kept ++ take n more)
leaves_first kept [] c fit fit_more held no_chance =
    let run = run_of kept (records_of kept ++ []) c fit (begins_of (records_of kept) []) held
    (none_behind_end kept c) in (
      0,
      omega arith,
      subst (λ (ws : List Write). AreRecords c ws) (sym (append-nil kept))
          (are_records kept (records_of kept ++ []) c run no_chance),
    )
leaves_first kept (m ∷ ms) c fit fit_more held no_chance =
    elim (begins_or_not (drop (length (records_of kept)) c) (record_of m)) [
      | inr not ↦
          let w = records_of kept ++ records_of (m ∷ ms) in
          let run = run_of kept w c fit (begins_of (records_of kept) (records_of (m ∷ ms))) held
          (none_behind kept m ms c fit_more.0 not) in (
            0,
            omega arith,
            subst (λ (ws : List Write). AreRecords c ws) (sym (append-nil kept))
                (are_records kept w c run no_chance),
          )
      | inl stands ↦
          let one : records_of (kept ++ m ∷ []) ≡ records_of kept ++ record_of m =
          records_of-append kept (m ∷ []) ∙ ap (λ (t : List ℕ). records_of kept ++ t)
          (append-nil (record_of m)) in
          let held2 : Begins c (records_of (kept ++ m ∷ [])) =
          subst (λ (t : List ℕ). Begins c t) (sym one) (begins_both c (records_of kept)
          (record_of m) held stands) in
          let same : records_of kept ++ records_of (m ∷ ms)
          ≡ records_of (kept ++ m ∷ []) ++ records_of ms =
          sym (append_assoc (records_of kept) (record_of m) (records_of ms))
          ∙ ap (λ (t : List ℕ). t ++ records_of ms) (sym one) in
          let (n, bound, are) = leaves_first (kept ++ m ∷ []) ms c
          (fit-append kept (m ∷ []) fit (fit_more.0, tt)) fit_more.1 held2
          (subst (λ (t : List ℕ). NoChanceIn t c) same no_chance) in (
            suc n,
            omega (arith, bound),
            subst (λ (ws : List Write). AreRecords c ws)
                (append_assoc kept (m ∷ []) (take n ms)) are,
          )
    ]

-- ---- the records of a file as it reads

no_record_here : (bytes : List ℕ) → length bytes ≡ 0 → NoRecord bytes
no_record_here bytes none w rest stands =
    omega (arith, none, ap length stands.whole, length-append (record_of w) rest, some_bytes w)

-- part of a record is none
pub no_part : (w : Write) (k : ℕ) → IsWritable w → k < size_of w → NoRecord (take k (record_of w))
no_part w k fit short v rest stands =
    let more : RecordStands (record_of w) v (rest ++ drop k (record_of w)) = record {
      fits = stands.fits;
      whole = sym (take-append-drop k (record_of w))
          ∙ ap (λ (t : List ℕ). t ++ drop k (record_of w)) stands.whole
          ∙ append_assoc (record_of v) rest (drop k (record_of w));
    } in
    let whole : RecordStands (record_of w) w [] = record {
      fits = fit;
      whole = sym (append-nil (record_of w));
    } in
    let is : v ≡ w = (one_record (record_of w) v w _ _ more whole).0 in
    omega (
      arith,
      ap (λ (x : Write). length (record_of x)) is,
      ap length stands.whole,
      length-append (record_of v) rest,
      length-take k (record_of w),
      length-record_of w,
    )

records_then : (ws : List Write) (rest : List ℕ) → AllByRecursion IsWritable ws → NoRecord rest
    → AreRecords (records_of ws ++ rest) ws
records_then ws rest fit none =
    let left : drop (length (records_of ws)) (records_of ws ++ rest) ≡ rest =
    drop_at (records_of ws) rest (length (records_of ws)) refl in
    record {
      fit = fit;
      held = begins_of (records_of ws) rest;
      ended = subst NoRecord (sym left) none;
    }

-- records, and part of one more
pub part_records : (ws : List Write) (w : Write) (k : ℕ) → AllByRecursion IsWritable ws
    → IsWritable w → k < size_of w
    → AreRecords (records_of ws ++ take k (record_of w)) ws
part_records ws w k fit is short = records_then ws (take k (record_of w)) fit (no_part w k is short)

-- records alone
pub all_records : (ws : List Write) → AllByRecursion IsWritable ws → AreRecords (records_of ws) ws
all_records ws fit =
    subst (λ (t : List ℕ). AreRecords t ws) (append-nil (records_of ws))
    (records_then ws [] fit (no_record_here [] refl))

-- records, and the first bytes of some more: some of these are whole
pub some_records : (ws more : List Write) (k : ℕ) → AllByRecursion IsWritable ws
    → AllByRecursion IsWritable more
    → (n : ℕ) × (n ≤ length more) × AreRecords (records_of ws ++ take k (records_of more))
    (ws ++ take n more)
some_records ws [] k fit fit_more =
    let none : records_of ws ≡ records_of ws ++ take k [] = sym (append-nil (records_of ws))
    ∙ ap (λ (t : List ℕ). records_of ws ++ t) (sym (take_all k [] (omega arith))) in (
      0,
      omega arith,
      subst (λ (l : List Write). AreRecords (records_of ws ++ take k []) l) (sym (append-nil ws))
          (subst (λ (t : List ℕ). AreRecords t ws) none (all_records ws fit)),
    )
some_records ws (m ∷ ms) k fit fit_more =
    elim (cases_lt k (size_of m)) [
      | inl short ↦
          let part : take k (record_of m) ≡ take k (records_of (m ∷ ms)) =
          sym (take-append-le k (record_of m) (records_of ms)
          (omega (arith, short, length-record_of m))) in (
            0,
            omega arith,
            subst (λ (l : List Write). AreRecords (records_of ws ++ take k (records_of (m ∷ ms))) l)
                (sym (append-nil ws))
                (subst (λ (t : List ℕ). AreRecords (records_of ws ++ t) ws) part
                (part_records ws m k fit fit_more.0 short)),
          )
      | inr long ↦
          let (n, bound, are) = some_records (ws ++ m ∷ []) ms (k - size_of m)
          (fit-append ws (m ∷ []) fit (fit_more.0, tt)) fit_more.1 in
          let count : k ≡ length (record_of m) + (k - size_of m) =
          omega (arith, long, length-record_of m) in
          let front : take k (records_of (m ∷ ms)) ≡ record_of m ++ take (k - size_of m)
          (records_of ms) =
          ap (λ (i : ℕ). take i (records_of (m ∷ ms))) count
          ∙ take-append-add (record_of m) (records_of ms) (k - size_of m) in
          let one : records_of (ws ++ m ∷ []) ≡ records_of ws ++ record_of m =
          records_of-append ws (m ∷ []) ∙ ap (λ (t : List ℕ). records_of ws ++ t)
          (append-nil (record_of m)) in
          let same : records_of (ws ++ m ∷ []) ++ take (k - size_of m) (records_of ms)
          ≡ records_of ws ++ take k (records_of (m ∷ ms)) =
          ap (λ (t : List ℕ). t ++ take (k - size_of m) (records_of ms)) one
          ∙ append_assoc (records_of ws) (record_of m) (take (k - size_of m) (records_of ms))
          ∙ ap (λ (t : List ℕ). records_of ws ++ t) (sym front) in (
            suc n,
            omega (arith, bound),
            subst (λ (t : List ℕ). AreRecords t (ws ++ m ∷ take n ms)) same
                (subst (λ (l : List Write). AreRecords (records_of (ws ++ m ∷ []) ++ take
                (k - size_of m) (records_of ms)) l)
                (append_assoc ws (m ∷ []) (take n ms)) are),
          )
    ]
