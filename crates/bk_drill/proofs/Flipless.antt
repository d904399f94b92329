-- A crash that changes no byte meets no chance match: what it leaves of the active file is a first part of the
-- records that were handed to it.
use Rattle.std.proofs.Common.{◌≡◌, ◌∙◌, ℕ, ◌+◌, ◌<◌, true, false, List, [], ◌∷◌, ◌++◌, length, take, drop, Option, Some, None}
use Rattle.std.proofs.Common.{refl, sym, ap, subst, append_assoc, arith, inl, inr}
use Rattle.std.specs.List.{AllByRecursion}
use Rattle.std.specs.Option.{unwrap_or}
use Rattle.std.proofs.Math.Seq.{take-append-add}
use Rattle.std.proofs.lemmas.Bool.{cases_Bool, cases_lt}
use Rattle.std.proofs.lemmas.List.{drop_at, take-append-drop, take-take, take_all, take_at, length-take}
use Rattle.bk_base.specs.declared.names.Name.{Name}
use Rattle.bk_base.specs.declared.writes.Write.{Write}
use Rattle.bk_disk.specs.Names.{same}
use Rattle.bk_disk.specs.Told.{Front, Image, Table, Told, at, bytes_of, names}
use Rattle.bk_image.specs.Chance.{Begins, IsRun, NoChance, NoChanceIn}
use Rattle.bk_image.specs.Core.{ActiveFile, Core, IsActiveFile, IsSettledAt, RestsAt}
use Rattle.bk_image.specs.Holds.{Holds, Shape}
use Rattle.bk_image.specs.Readings.{Books, main}
use Rattle.bk_image.proofs.Chances.{begins_from, records_of-append, run_of, some_records}
use Rattle.bk_image.proofs.OneName.{by_name}
use Rattle.bk_laws.specs.Record.{AreRecords, IsWritable, NoRecord, record_of, records_of}
use Rattle.bk_memdisk.specs.Crash.{all_flipped, crashed, kept_part, left_of}

-- ---- records that were left

-- The whole records of what is left are the longest run of those handed, and behind them none stands.
pub no_chance_in : (handed left : List ℕ) (writes : List Write) → Begins handed (records_of writes)
    → AreRecords left writes → NoChanceIn handed left
no_chance_in handed left writes was are run is =
    let whole : IsRun handed left writes = run_of writes handed left are.fit was are.held
    (λ x fit p q. are.ended x (drop (length (record_of x)) (drop (length (records_of writes)) left))
    (record { fits = fit; whole = q })) in
    let same : length (records_of writes) ≡ length (records_of run) =
    omega (arith, is.longest writes whole.kept, whole.longest run is.kept) in
    subst (λ (n : ℕ). NoRecord (drop n left)) same are.ended

-- the records of some writes begin with those of the first of them
begins_first : (first more : List Write) (n : ℕ)
    → Begins (records_of first ++ records_of more) (records_of (first ++ take n more))
begins_first first more n =
    let some = take n more in
    let rest = drop n more in
    begins_from (records_of first ++ records_of more) (records_of (first ++ some)) (records_of rest)
    (ap (λ (ws : List Write). records_of first ++ records_of ws) (sym (take-append-drop n more))
    ∙ ap (λ (t : List ℕ). records_of first ++ t) (records_of-append some rest)
    ∙ sym (append_assoc (records_of first) (records_of some) (records_of rest))
    ∙ ap (λ (t : List ℕ). t ++ records_of rest) (sym (records_of-append first some)))

-- a first part of records
pub part_no_chance : (synced more : List Write) (k : ℕ) → AllByRecursion IsWritable synced → AllByRecursion IsWritable more
    → NoChanceIn (records_of synced ++ records_of more) (records_of synced ++ take k (records_of more))
part_no_chance synced more k fit fit_more =
    let (n, bound, are) = some_records synced more k fit fit_more in
    no_chance_in (records_of synced ++ records_of more) (records_of synced ++ take k (records_of more))
    (synced ++ take n more) (begins_first synced more n) are

-- ---- what is left of one file

no_flip : (offset : ℕ) (bs : List ℕ) → all_flipped [] offset bs ≡ bs
no_flip offset [] = refl
no_flip offset (b ∷ bs) = ap (λ (t : List ℕ). b ∷ t) (no_flip (offset + 1) bs)

take_of_take : (k m : ℕ) (xs : List ℕ) → (j : ℕ) × (take k (take m xs) ≡ take j xs)
take_of_take k m xs =
    elim (cases_lt k m) [
      | inl less ↦ (k, take-take k m xs (omega arith))
      | inr more ↦ (m, take_all k (take m xs) (omega (arith, length-take m xs)))
    ]

kept_of_first : (keep : Option ℕ) (m : ℕ) (xs : List ℕ) → (j : ℕ) × (kept_part keep (take m xs) ≡ take j xs)
kept_of_first None m xs = (m, refl)
kept_of_first (Some keep) m xs = take_of_take keep m xs

-- behind the synced records a first part of those that were handed
left_records : (keep : Option ℕ) (synced recent tried : List Write) (through : ℕ)
    → (j : ℕ) × (left_of keep [] (length (records_of synced)) (records_of (synced ++ recent) ++ take through (records_of tried))
    ≡ records_of synced ++ take j (records_of (recent ++ tried)))
left_records keep synced recent tried through =
    let first = records_of synced in
    let part = records_of recent ++ take through (records_of tried) in
    let m = length (records_of recent) + through in
    let bytes : records_of (synced ++ recent) ++ take through (records_of tried) ≡ first ++ part =
    ap (λ (t : List ℕ). t ++ take through (records_of tried)) (records_of-append synced recent)
    ∙ append_assoc first (records_of recent) (take through (records_of tried)) in
    let behind : drop (length first) (first ++ part) ≡ take m (records_of (recent ++ tried)) =
    drop_at first part (length first) refl
    ∙ sym (ap (take m) (records_of-append recent tried) ∙ take-append-add (records_of recent) (records_of tried) through) in
    let (j, is) = kept_of_first keep m (records_of (recent ++ tried)) in (
      j,
      ap (left_of keep [] (length first)) bytes
          ∙ ap (λ (t : List ℕ). t ++ all_flipped [] 0 (kept_part keep (drop (length first) (first ++ part))))
          (take_at first part (length first) refl)
          ∙ ap (λ (t : List ℕ). first ++ t)
          (no_flip 0 (kept_part keep (drop (length first) (first ++ part))) ∙ ap (kept_part keep) behind ∙ is),
    )

left_no_chance : (keep : Option ℕ) (synced recent tried : List Write) (through : ℕ) → AllByRecursion IsWritable synced
    → AllByRecursion IsWritable (recent ++ tried)
    → NoChanceIn (records_of synced ++ records_of (recent ++ tried))
    (left_of keep [] (length (records_of synced)) (records_of (synced ++ recent) ++ take through (records_of tried)))
left_no_chance keep synced recent tried through fit fit_more =
    let (j, is) = left_records keep synced recent tried through in
    subst (NoChanceIn (records_of synced ++ records_of (recent ++ tried))) (sym is)
    (part_no_chance synced (recent ++ tried) j fit fit_more)

-- ---- of all files

at_crashed : (keep : Option ℕ) (flips : List ℕ) (n : Name) (f : Front) (bytes : List ℕ) (fronts : Table Front) (image : Image)
    → names fronts ≡ names image → at fronts n ≡ Some f → at image n ≡ Some bytes
    → at (crashed keep flips fronts image) n ≡ Some (left_of keep flips (length f.synced) bytes)
at_crashed keep flips n f bytes [] image paired is there = absurd (cc is)
at_crashed keep flips n f bytes (g ∷ fs) [] paired is there = absurd (cc there)
at_crashed keep flips n f bytes (g ∷ fs) (e ∷ es) paired is there =
    let name : g.0 ≡ e.0 = cc paired in
    let others : names fs ≡ names es = cc paired in
    elim (cases_Bool (same n e.0)) [
      | inl p ↦
          let q : same n g.0 ≡ true = ap (same n) name ∙ p in
          let front_here : at (g ∷ fs) n ≡ Some g.1 = rw q refl in
          let bytes_here : at (e ∷ es) n ≡ Some e.1 = rw p refl in
          let front : g.1 ≡ f = cc (sym front_here ∙ is) in
          let file : e.1 ≡ bytes = cc (sym bytes_here ∙ there) in
          rw p (ap (λ (x : Front). Some (left_of keep flips (length x.synced) e.1)) front
          ∙ ap (λ (b : List ℕ). Some (left_of keep flips (length f.synced) b)) file)
      | inr p ↦
          let q : same n g.0 ≡ false = ap (same n) name ∙ p in
          let front_later : at (g ∷ fs) n ≡ at fs n = rw q refl in
          let bytes_later : at (e ∷ es) n ≡ at es n = rw p refl in
          rw p (at_crashed keep flips n f bytes fs es others (sym front_later ∙ is) (sym bytes_later ∙ there))
    ]

-- a file that rests has nothing pending
nothing_pending : (bytes : Option (List ℕ)) (f : Front) (o : Option Front) → RestsAt bytes o → o ≡ Some f → f.lent ≡ false
    → 0 < length f.pending → ⊥
nothing_pending bytes f o rests is ours some =
    let settled : IsSettledAt bytes f = subst (RestsAt bytes) is rests in
    omega (arith, some, ap (λ (b : List ℕ). length b) (settled.nothing_pending ours))

module _ (keep : Option ℕ) (image : Image) (fronts : Table Front) (books : Books) (settled recent tried : List Write)
    (paired : names fronts ≡ names image) where
  active_no_chance : (a : ActiveFile) → Core image fronts books (Some a) settled recent tried
      → (f : Front) → at fronts (main a.id) ≡ Some f
      → NoChanceIn (f.synced ++ f.pending) (bytes_of (main a.id) (crashed keep [] fronts image))
  active_no_chance a core f is =
      let act : IsActiveFile a image fronts books recent tried = core.has_active in
      let book = books (main a.id) in
      let bytes = records_of (book ++ recent) ++ take act.through (records_of tried) in
      let here : bytes_of (main a.id) (crashed keep [] fronts image) ≡ left_of keep [] (length act.front.synced) bytes =
      ap (λ (o : Option (List ℕ)). unwrap_or o [])
      (at_crashed keep [] (main a.id) act.front bytes fronts image paired act.is act.bytes) in
      let none : NoChanceIn (records_of book ++ records_of (recent ++ tried)) (left_of keep [] (length (records_of book)) bytes) =
      left_no_chance keep book recent tried act.through (core.safe.recovers.reads (main a.id) act.counts).fit core.fit in
      let front : act.front ≡ f = cc (sym act.is ∙ is) in
      subst (λ (x : Front). NoChanceIn (x.synced ++ x.pending) (bytes_of (main a.id) (crashed keep [] fronts image))) front
      (subst (NoChanceIn (act.front.synced ++ act.front.pending)) (sym here)
      (subst (λ (b : List ℕ). NoChanceIn (b ++ act.front.pending) (left_of keep [] (length b) bytes)) (sym act.synced)
      (subst (λ (b : List ℕ). NoChanceIn (records_of book ++ b) (left_of keep [] (length (records_of book)) bytes))
      (sym act.pending) none)))

  core_no_chance : (active : Option ActiveFile) → Core image fronts books active settled recent tried
      → NoChance fronts (crashed keep [] fronts image)
  core_no_chance None core = λ n f is ours some.
      absurd (nothing_pending (at image n) f (at fronts n) (core.others n tt) is ours some)
  core_no_chance (Some a) core =
      by_name (λ n. (f : Front) → at fronts n ≡ Some f → f.lent ≡ false → 0 < length f.pending
      → NoChanceIn (f.synced ++ f.pending) (bytes_of n (crashed keep [] fronts image))) (main a.id)
      (λ f is ours some. active_no_chance a core f is)
      (λ n other f is ours some.
      absurd (nothing_pending (at image n) f (at fronts n) (core.others n other) is ours some))

-- a disk that holds a log
pub flipless_no_chance : {J : Shape → Type 0} {t : Told} {active : Option ActiveFile} {last : ℕ} {log : List Write} {kept : ℕ}
    {tried : List Write} (keep : Option ℕ) → Holds J t active last log kept tried
    → NoChance t.fronts (crashed keep [] t.fronts t.image)
flipless_no_chance {t = t} {active = active} {tried = tried} keep h =
    core_no_chance keep t.image t.fronts h.books h.settled h.recent tried h.well.paired active h.core
