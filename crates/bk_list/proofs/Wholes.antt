-- The whole command: a fold is opened, gathered and closed, and its keys are sorted, got and printed.
use Rattle.std.proofs.Common.{◌≡◌, ◌∙◌, ℕ, ◌+◌, Bool, false, List, []}
use Rattle.std.proofs.Common.{◌∷◌, ◌++◌, length, get_or}
use Rattle.std.proofs.Common.{Option, Some, None, refl, sym, ap, subst, arith, inl, inr}
use Rattle.std.specs.Prelude.{All, IsTrue, IsPermutation, IsSorted, map, slice_set}
use Rattle.std.specs.Cmp.Lexicographic.{slice_cmp}
use Rattle.std.specs.List.{AllByRecursion, swap}
use Rattle.std.specs.Ordering.{is_lt, nat_cmp}
use Rattle.std.proofs.lemmas.List.{append-nil, length-map, map-set}
use Rattle.std.proofs.lemmas.List.Sorted.{All-permutation, IsPermutation-keeps, IsPermutation-refl, IsPermutation-swap, IsPermutation-trans}
use Rattle.std.proofs.lemmas.List.Elements.{All-head, All-tail}
use Rattle.std.proofs.Math.ListN.{get_or-map, set}
use Rattle.bk_base.specs.declared.calls.Answer.{Answer}
use Rattle.bk_base.specs.declared.calls.Answer.TheVariants.{Done, Fold as fold_answer, Found, Nothing}
use Rattle.bk_base.specs.declared.calls.Call.{Call}
use Rattle.bk_base.specs.declared.calls.Call.TheVariants.{FoldClose, FoldOpen, Get, Quiet}
use Rattle.bk_base.specs.declared.histories.Opening.{Opening}
use Rattle.bk_base.specs.declared.histories.Step.{Step}
use Rattle.bk_base.specs.declared.numbers.Moment.{Moment}
use Rattle.bk_base.specs.declared.writes.Write.{Write}
use Rattle.bk_disk.specs.Crashes.{AtEach, fronts_at}
use Rattle.bk_disk.specs.Told.{Front, Table, Told, clock, untold}
use Rattle.bk_exchange.specs.Listings.{IsListing, Row, closing_call, end_call, listing_calls, row_calls}
use Rattle.bk_exchange.specs.Points.{AtOne, Event, Point, Said, calls_of, events, heard, next_point, point_of}
use Rattle.bk_exchange.specs.Sessions.{first_moment, later_moments}
use Rattle.bk_exchange.specs.Writes.{writes_in}
use Rattle.bk_exchange.proofs.Events.{point_of-append, state_of_point}
use Rattle.bk_exchange.proofs.OkLines.{row_writes, writes-append}
use Rattle.bk_exchange.proofs.OneCaller.{alone_all, log_at}
use Rattle.bk_exchange.proofs.WholeListings.{listing_whole}
use Rattle.bk_image.specs.Prefix.{MeetsEither}
use Rattle.bk_keydir.specs.declared.slots.Slot.{Slot}
use Rattle.bk_keydir.specs.Keydir.{Shown as KeydirShown}
use Rattle.bk_keydir.specs.Slots.{has_open, opened, slot_at}
use Rattle.bk_laws.specs.History.{IsLegal, IsReply, State, after, entries, log_of, opened as opening_state, state_of}
use Rattle.bk_laws.specs.Log.{IsLog, live}
use Rattle.bk_store.specs.declared.folds.Fold.{Fold}
use Rattle.bk_store.specs.Events.{CrashMeets, Keeps, entry_by}
use Rattle.bk_store.specs.FoldEvents.{IsClosed, IsOpened}
use Rattle.bk_store.specs.History.{kept_of}
use Rattle.bk_store.specs.Shown.{Shown}
use Rattle.bk_store.specs.Standing.{StandsFor, content_of}
use Rattle.bk_store.proofs.FoldOpens.{first_is_free}
use Rattle.bk_store.proofs.FoldSteps.{log_rises}
use Rattle.bk_store.proofs.Starting.{no_slot}
use Rattle.bk_files.specs.Files.{Seen}
use Rattle.bk_session.specs.Following.{Follows}
use Rattle.bk_session.specs.Listing.{Begun, Closes, IsOurs, IsUnmoved, Listed}
use Rattle.bk_session.specs.Serving.{Tells}
use Rattle.bk_session.proofs.FoldCalls.{listed_closed, listed_opened, owned, same_clock, set_here}
use Rattle.bk_store.proofs.FoldSteps.{slot_within}
use Rattle.bk_session.proofs.Following.{known_way}
use Rattle.bk_list.specs.declared.lists.ListEnd.{ListEnd}
use Rattle.bk_list.specs.Gathering.{Gathers, MovesOn, Refuses, Stops, keys_of}
use Rattle.bk_list.specs.Lists.{IsAsBefore, Lists, Sides, begun_at}
use Rattle.bk_list.specs.Getting.{PrintsSorted, Stays}
use Rattle.bk_list.specs.Printing.{Asked, asked_keys, found_rows, get_call, get_calls, row_if}
use Rattle.bk_list.specs.Sorting.{AreSorted, key_cmp}
use Rattle.bk_list.proofs.Gathers.{moves_then, set_same}
use Rattle.bk_list.proofs.Prints.{no_rows}
use Rattle.bk_list.proofs.SortedRows.{all_live, sorted_map}
use Rattle.bk_image.proofs.HoldsRolls.{none_behind}

-- ---- the order

keys_swap : (rows : List Row) (i j : ℕ) → keys_of (swap rows i j) ≡ swap (keys_of rows) i j
keys_swap [] i j = refl
keys_swap (x ∷ xs) i j =
    let f : Row → List ℕ = λ row. row.key in
    let all = x ∷ xs in
    map-set f (set all i (get_or all j x)) j (get_or all i x)
    ∙ ap (λ (l : List (List ℕ)). set l j (get_or all i x).key) (map-set f all i (get_or all j x))
    ∙ ap (λ (k : List ℕ). set (set (map f all) i k) j (get_or all i x).key) (sym (get_or-map f all j x))
    ∙ ap (λ (k : List ℕ). set (set (map f all) i (get_or (map f all) j x.key)) j k) (sym (get_or-map f all i x))

abbrev Keyed : List Row → List (List ℕ) → Type 0
Keyed rows keys = (others : List Row) × (keys_of others ≡ keys) × IsPermutation rows others

-- rows in the order of their keys
keyed : (rows : List Row) (keys sorted : List (List ℕ)) → keys_of rows ≡ keys → IsPermutation keys sorted → Keyed rows sorted
keyed rows keys sorted are moved =
    IsPermutation-keeps keys (Keyed rows) (rows, are, IsPermutation-refl rows)
    (λ l i j low high at.
    let long : length l ≡ length at.0 = ap (λ (ks : List (List ℕ)). length ks) (sym at.1) ∙ length-map at.0 (λ (row : Row). row.key) in (
      swap at.0 i j,
      keys_swap at.0 i j ∙ ap (λ (ks : List (List ℕ)). swap ks i j) at.1,
      IsPermutation-trans rows at.0 (swap at.0 i j) at.2
          (IsPermutation-swap at.0 (swap at.0 i j) i j (omega (arith, low, long)) (omega (arith, high, long)) refl),
    ))
    sorted moved

rows_rise : (rows : List Row) (sorted : List (List ℕ)) → keys_of rows ≡ sorted → IsSorted (slice_cmp nat_cmp) sorted
    → IsSorted key_cmp rows
rows_rise rows sorted are rise k d low inside =
    let f : Row → List ℕ = λ row. row.key in
    let up : IsSorted (slice_cmp nat_cmp) (keys_of rows) = subst (IsSorted (slice_cmp nat_cmp)) (sym are) rise in
    ap (λ (l : List ℕ). is_lt (slice_cmp nat_cmp l (get_or rows k d).key)) (sym (get_or-map f rows (k + 1) d))
    ∙ ap (λ (l : List ℕ). is_lt (slice_cmp nat_cmp (get_or (keys_of rows) (k + 1) d.key) l)) (sym (get_or-map f rows k d))
    ∙ up k d.key low (omega (arith, inside, length-map rows f))

-- ---- what was got

-- the rows of the keys that weren't got
abbrev behind_got : List Asked → List Row → List Row
behind_got [] rows = rows
behind_got (a ∷ got) [] = []
behind_got (a ∷ got) (row ∷ rows) = behind_got got rows

abbrev head_of : List (List ℕ) → List ℕ
head_of [] = []
head_of (x ∷ xs) = x

abbrev tail_of : List (List ℕ) → List (List ℕ)
tail_of [] = []
tail_of (x ∷ xs) = xs

others_are : (got : List Asked) (left : List (List ℕ)) (rows : List Row) → keys_of rows ≡ asked_keys got ++ left
    → keys_of (behind_got got rows) ≡ left
others_are [] left rows are = are
others_are (a ∷ got) left [] are = absurd (cc are)
others_are (a ∷ got) left (row ∷ rows) are = others_are got left rows (ap tail_of are)

-- what was found is live
abbrev IsLive : ℕ → List Write → Moment → Asked → Type 0
IsLive ttl log now a = a.found ≡ live log a.key now.0 ttl

shown : (ttl : ℕ) (log : List Write) (now : Moment) (got : List Asked) (left : List (List ℕ)) (rows : List Row)
    → keys_of rows ≡ asked_keys got ++ left → All (λ (row : Row). live log row.key now.0 ttl ≡ Some row.value) rows
    → AllByRecursion (IsLive ttl log now) got → rows ≡ found_rows got ++ behind_got got rows
shown ttl log now [] left rows are all found = refl
shown ttl log now (a ∷ got) left [] are all found = absurd (cc are)
shown ttl log now (a ∷ got) left (row ∷ rows) are all found =
    let P : Row → Type 0 = λ r. live log r.key now.0 ttl ≡ Some r.value in
    let key : row.key ≡ a.key = ap head_of are in
    let here : a.found ≡ Some row.value =
    found.0 ∙ ap (λ (k : List ℕ). live log k now.0 ttl) (sym key) ∙ All-head P row rows all in
    let line : row_if a.key a.found ≡ row ∷ [] =
    ap (row_if a.key) here ∙ ap (λ (k : List ℕ). row_if k (Some row.value)) (sym key) in
    ap (λ (l : List Row). row ∷ l) (shown ttl log now got left rows (ap tail_of are) (All-tail P row rows all) found.1)
    ∙ ap (λ (l : List Row). (l ++ found_rows got) ++ behind_got got rows) (sym line)

-- ---- the log

nothing_first : (xs ys : List Write) → xs ++ ys ≡ [] → xs ≡ []
nothing_first [] ys none = refl
nothing_first (x ∷ xs) ys none = absurd (cc none)

-- a call that writes nothing leaves the log
same_log : (p : Point) (step : Step) → writes_in (heard step.entry.call step.entry.reply) ≡ []
    → (next_point p step).state.log ≡ p.state.log
same_log p step none =
    log_at p (step ∷ [])
    ∙ ap (λ (l : List Write). p.state.log ++ l) (ap writes_in (append-nil (heard step.entry.call step.entry.reply)) ∙ none)
    ∙ append-nil p.state.log

-- where no call writes, each event finds the same log
log_before : (Q : List Write → Type 0) (F : Event → Type 0) (p : Point) (steps : List Step)
    → writes_in (calls_of (events p steps)) ≡ [] → AtOne (λ (e : Event). F e × Q e.before.state.log) (events p steps)
    → Q p.state.log
log_before Q F p [] none at = absurd at
log_before Q F p (step ∷ steps) none (inl here) = here.1
log_before Q F p (step ∷ steps) none (inr later) =
    let said = heard step.entry.call step.entry.reply in
    let behind = calls_of (events (next_point p step) steps) in
    let all : writes_in said ++ writes_in behind ≡ [] = sym (writes-append said behind) ∙ none in
    subst Q (same_log p step (nothing_first (writes_in said) (writes_in behind) all))
    (log_before Q F (next_point p step) steps (none_behind (writes_in said) (writes_in behind) all) later)

legal_behind : (ttl : ℕ) (s : State) (h steps : List Step) → IsLegal ttl s (entries (h ++ steps))
    → IsLegal ttl (state_of s (entries h)) (entries steps)
legal_behind ttl s [] steps legal = legal
legal_behind ttl s (step ∷ h) steps legal = legal_behind ttl (after s step.entry) h steps legal.1

-- ---- what is legal

-- what a get answers, of this log
abbrev GetIsLive : ℕ → List Write → Call → Answer → Type 0
GetIsLive ttl log (Get key now) (Found value) = live log key now.0 ttl ≡ Some value
GetIsLive ttl log (Get key now) Nothing = live log key now.0 ttl ≡ None
GetIsLive ttl log call answer = Unit {0}

abbrev SaysLive : ℕ → List Write → Said → Type 0
SaysLive ttl log s = GetIsLive ttl log s.call s.answer

get_is_live : (ttl : ℕ) (s : State) (caller : ℕ) (call : Call) (answer : Answer) → IsReply ttl s caller call answer
    → GetIsLive ttl s.log call answer
get_is_live ttl s caller (Get key now) (Found value) legal = legal
get_is_live ttl s caller (Get key now) Nothing legal = legal
get_is_live ttl s caller (Get key now) answer legal = tt
get_is_live ttl s caller call answer legal = tt

heard_live : (ttl : ℕ) (log : List Write) (call : Call) (answer : Answer) (more : List Said) → GetIsLive ttl log call answer
    → AllByRecursion (SaysLive ttl log) more → AllByRecursion (SaysLive ttl log) (heard call answer ++ more)
heard_live ttl log Quiet answer more here later = later
heard_live ttl log call answer more here later = (here, later)

-- where no call writes, each get tells what is live in the log before all of them
gets_live : (ttl : ℕ) (p : Point) (steps : List Step) → writes_in (calls_of (events p steps)) ≡ []
    → IsLegal ttl p.state (entries steps) → AllByRecursion (SaysLive ttl p.state.log) (calls_of (events p steps))
gets_live ttl p [] none legal = tt
gets_live ttl p (step ∷ steps) none legal =
    let said = heard step.entry.call step.entry.reply in
    let behind = calls_of (events (next_point p step) steps) in
    let all : writes_in said ++ writes_in behind ≡ [] = sym (writes-append said behind) ∙ none in
    heard_live ttl p.state.log step.entry.call step.entry.reply behind
    (get_is_live ttl p.state step.entry.caller step.entry.call step.entry.reply legal.0)
    (subst (λ (log : List Write). AllByRecursion (SaysLive ttl log) behind) (same_log p step (nothing_first (writes_in said) (writes_in behind) all))
    (gets_live ttl (next_point p step) steps (none_behind (writes_in said) (writes_in behind) all) legal.1))

all_behind : (P : Said → Type 0) (xs ys : List Said) → AllByRecursion P (xs ++ ys) → AllByRecursion P ys
all_behind P [] ys all = all
all_behind P (x ∷ xs) ys all = all_behind P xs ys all.1

got_live : (ttl : ℕ) (log : List Write) (now : Moment) (got : List Asked)
    → AllByRecursion (SaysLive ttl log) (get_calls now got) → AllByRecursion (IsLive ttl log now) got
got_live ttl log now [] all = tt
got_live ttl log now (a ∷ got) all = (one a.key a.found all.0, got_live ttl log now got all.1)
  where
    one : (key : List ℕ) (found : Option (List ℕ)) → SaysLive ttl log (get_call now (record { key = key; found = found }))
        → found ≡ live log key now.0 ttl
    one key None h = sym h
    one key (Some value) h = sym h

gets_write_nothing : (now : Moment) (got : List Asked) → writes_in (get_calls now got) ≡ []
gets_write_nothing now [] = refl
gets_write_nothing now (a ∷ got) = one a.key a.found ∙ gets_write_nothing now got
  where
    one : (key : List ℕ) (found : Option (List ℕ))
        → writes_in (get_call now (record { key = key; found = found }) ∷ get_calls now got) ≡ writes_in (get_calls now got)
    one key None = refl
    one key (Some value) = refl

module _ (known : Bool) (b : Begun) (slot : ℕ) (v : Shown) (given : List Row) (behind : List Said) (quiet : ℕ) (steps : List Step)
    (l : Listed known b slot v given behind quiet steps) (none : writes_in behind ≡ []) where
  pub nothing_written : writes_in (calls_of (events (point_of b.opening b.before) steps)) ≡ []
  nothing_written =
      ap (λ (es : List Event). writes_in (calls_of es)) (sym (alone_all 0 (point_of b.opening b.before) steps l.alone))
      ∙ ap writes_in l.called ∙ row_writes slot given behind ∙ none

  pub log_stays : log_of b.opening (b.before ++ steps) ≡ log_of b.opening b.before
  log_stays =
      ap (λ (s : State). s.log) (sym (state_of_point b.opening (b.before ++ steps)))
      ∙ ap (λ (p : Point). p.state.log) (point_of-append b.opening b.before steps)
      ∙ log_at (point_of b.opening b.before) steps
      ∙ ap (λ (ws : List Write). (point_of b.opening b.before).state.log ++ ws) nothing_written
      ∙ append-nil (point_of b.opening b.before).state.log
      ∙ ap (λ (s : State). s.log) (state_of_point b.opening b.before)

-- the pairs up to the end are those that were live
pub lists_live : (known : Bool) (b : Begun) (slot : ℕ) (v : Shown) (given : List Row) (steps : List Step)
    → IsTrue known → Follows known v b.opening (b.before ++ steps) b.tried
    → Listed known b slot v given (end_call slot ∷ closing_call slot ∷ []) 0 steps → (start : Shown)
    → Follows known start b.opening b.before b.tried
    → IsListing b.opening.settings.ttl b.now.0 (log_of b.opening b.before) [] given
lists_live known b slot v given steps tell f l start began =
    let o = b.opening in
    let p = point_of o b.before in
    let log = (point_of o b.before).state.log in
    let is : log ≡ log_of o b.before = ap (λ (s : State). s.log) (state_of_point o b.before) in
    let lists : List Write → Type 0 = λ ws. IsListing o.settings.ttl b.now.0 ws [] given in
    subst lists is
    (log_before lists (λ (e : Event). e.step.entry.call ≡ FoldOpen b.now) p steps
    (nothing_written known b slot v given (end_call slot ∷ closing_call slot ∷ []) 0 steps l refl)
    (subst (AtOne (λ (e : Event). (e.step.entry.call ≡ FoldOpen b.now) × lists e.before.state.log))
    (alone_all 0 p steps l.alone)
    (listing_whole o.settings.ttl 0 b.now l.epoch slot p steps given
    (subst (λ (s : State). IsLog s.log) (sym (state_of_point o b.before))
    (log_rises start.files (content_of o b.before b.tried) (began.stands tell).content.disk))
    (subst (λ (s : State). IsLegal o.settings.ttl s (entries steps)) (sym (state_of_point o b.before))
    (legal_behind o.settings.ttl (opening_state o) b.before steps (f.stands tell).legal))
    l.called)))

-- what was got is live
got_is_live : (known : Bool) (b : Begun) (slot : ℕ) (v : Shown) (given : List Row) (got : List Asked) (quiet : ℕ) (steps : List Step)
    → IsTrue known → Listed known b slot v given (end_call slot ∷ closing_call slot ∷ get_calls b.now got) quiet steps
    → AllByRecursion (IsLive b.opening.settings.ttl (log_of b.opening b.before) b.now) got
got_is_live known b slot v given got quiet steps tell l =
    let o = b.opening in
    let p = point_of o b.before in
    let ttl = o.settings.ttl in
    let behind = end_call slot ∷ closing_call slot ∷ get_calls b.now got in
    let is : p.state.log ≡ log_of o b.before = ap (λ (s : State). s.log) (state_of_point o b.before) in
    let calls : calls_of (events p steps) ≡ listing_calls b.now l.epoch slot given behind =
    ap calls_of (sym (alone_all 0 p steps l.alone)) ∙ l.called in
    let all : AllByRecursion (SaysLive ttl p.state.log) (listing_calls b.now l.epoch slot given behind) =
    subst (AllByRecursion (SaysLive ttl p.state.log)) calls
    (gets_live ttl p steps
    (nothing_written known b slot v given behind quiet steps l (gets_write_nothing b.now got))
    (subst (λ (s : State). IsLegal ttl s (entries steps)) (sym (state_of_point o b.before))
    (legal_behind ttl (opening_state o) b.before steps (l.follows.stands tell).legal))) in
    let here : AllByRecursion (SaysLive ttl p.state.log) behind =
    all_behind (SaysLive ttl p.state.log) (row_calls slot given) behind all.1 in
    got_live ttl (log_of o b.before) b.now got
    (subst (λ (log : List Write). AllByRecursion (SaysLive ttl log) (get_calls b.now got)) is here.1.1)

-- ---- what a crash leaves

fronts_same : (t u : Told) → IsUnmoved t u → (k : ℕ) → fronts_at u k ≡ fronts_at t k
fronts_same t u m k =
    ap (λ (past : List (Table Front)). get_or past k u.fronts) m.past
    ∙ ap (λ (fronts : Table Front). get_or t.past k fronts) m.fronts

pub each_same : (P : Table Front → Type 0) (t u : Told) → IsUnmoved t u → AtEach t (clock t) P → AtEach u (clock t) P
each_same P t u m each k low high =
    subst P (sym (fronts_same t u m k)) (each k low (omega (arith, high, same_clock t u m)))

-- ---- the store

pub moves_opened : (now : Moment) (v u : Shown) (f : Fold) → IsOpened 0 now v u f → MovesOn f.slot v u
moves_opened now v u f is =
    let keys : u.keys ≡ record v.keys { slots = slice_set v.keys.slots f.slot (Some (opened 0 f.epoch now)) } =
    ap (λ (x : Shown). x.keys) is.keys in
    let files : u.files ≡ v.files = ap (λ (x : Shown). x.files) is.keys in
    let here : slot_at u.keys.slots f.slot ≡ Some (opened 0 f.epoch now) =
    ap (λ (k : KeydirShown). slot_at k.slots f.slot) keys
    ∙ set_here v.keys.slots f.slot (Some (opened 0 f.epoch now)) (first_is_free v.keys.slots f.slot is.slot).within in
    record {
      keys = keys ∙ ap (λ (x : Option Slot). record v.keys { slots = slice_set v.keys.slots f.slot x }) (sym here);
      seq = ap (λ (x : Shown). x.seq) is.keys;
      settings = ap (λ (x : Shown). x.settings) is.keys;
      catalog = ap (λ (x : Seen). x.catalog) files;
      faults = omega (arith, ap (λ (x : Seen). x.faults) files);
      views = omega (arith, ap (λ (x : Seen). x.fallible_views) files);
      outs = ap (λ (x : Seen). x.fallible_outs) files;
    }

free_after : (slot : ℕ) (v u : Shown) → IsOurs slot v → IsClosed slot v u → slot_at u.keys.slots slot ≡ None
free_after slot v u ours is =
    let (s, there) = owned (slot_at v.keys.slots slot) 0 ours in
    ap (λ (x : Shown). slot_at x.keys.slots slot) is
    ∙ set_here v.keys.slots slot None (slot_within v.keys.slots slot s there)

pub moves_closed : (slot : ℕ) (v u : Shown) → IsOurs slot v → IsClosed slot v u → MovesOn slot v u
moves_closed slot v u ours is =
    let files : u.files ≡ v.files = ap (λ (x : Shown). x.files) is in
    record {
      keys = ap (λ (x : Shown). x.keys) is
          ∙ ap (λ (x : Option Slot). record v.keys { slots = slice_set v.keys.slots slot x }) (sym (free_after slot v u ours is));
      seq = ap (λ (x : Shown). x.seq) is;
      settings = ap (λ (x : Shown). x.settings) is;
      catalog = ap (λ (x : Seen). x.catalog) files;
      faults = omega (arith, ap (λ (x : Seen). x.faults) files);
      views = omega (arith, ap (λ (x : Seen). x.fallible_views) files);
      outs = ap (λ (x : Seen). x.fallible_outs) files;
    }

-- the fold was opened, gathered and closed
pub as_before : (now : Moment) (v m g u : Shown) (f : Fold) → has_open v.keys.slots ≡ false → IsOpened 0 now v m f
    → MovesOn f.slot m g → IsOurs f.slot g → IsClosed f.slot g u → IsAsBefore v u
as_before now v m g u f none is moved ours closed =
    let all = moves_then f.slot v g u (moves_then f.slot v m g (moves_opened now v m f is) moved)
    (moves_closed f.slot g u ours closed) in
    record {
      keys = all.keys
          ∙ ap (λ (x : Option Slot). record v.keys { slots = slice_set v.keys.slots f.slot x })
          (free_after f.slot g u ours closed ∙ sym (no_slot v.keys.slots f.slot none))
          ∙ ap (λ (l : List (Option Slot)). record v.keys { slots = l }) (set_same v.keys.slots f.slot);
      seq = all.seq;
      settings = all.settings;
      catalog = all.catalog;
      faults = all.faults;
      outs = all.outs;
    }

-- and then its keys were got
pub stays_before : (v m u : Shown) → IsAsBefore v m → Stays m u → IsAsBefore v u
stays_before v m u b s = record {
  keys = ap (λ (x : Shown). x.keys) s.same ∙ b.keys;
  seq = ap (λ (x : Shown). x.seq) s.same ∙ b.seq;
  settings = ap (λ (x : Shown). x.settings) s.same ∙ b.settings;
  catalog = s.catalog ∙ b.catalog;
  faults = omega (arith, b.faults, s.faults);
  outs = s.outs ∙ b.outs;
}

-- ---- the fold, over a disk that may tell

pub fold_opened : (tells known : Bool) → (IsTrue known → IsTrue tells) → (o : Opening) (h : List Step) (tried : List Write)
    (now : Moment) (v u : Shown) (f : Fold) → Follows known v o h tried → IsOpened 0 now v u f
    → (IsTrue tells → Keeps tells (entry_by 0 (FoldOpen now) (fold_answer f.epoch f.slot)) v u)
    → (first : List Step)
    × Listed known (record { opening = o; before = h; tried = tried; now = now; told = v.files.told }) f.slot u [] [] 0 first
fold_opened tells known sub o h tried now v u f follows is keeps =
    known_way known tells
    (λ (t : Bool). Follows t v o h tried → (first : List Step)
    × Listed t (record { opening = o; before = h; tried = tried; now = now; told = v.files.told }) f.slot u [] [] 0 first) sub
    (λ followed. (_, listed_opened tells o h tried now v u f followed is keeps))
    (λ followed. (_, listed_opened false o h tried now v u f followed is (λ t. untold t)))
    follows

pub fold_closed : (tells known : Bool) → (IsTrue known → IsTrue tells) → (slot : ℕ) (v u : Shown) → IsOurs slot v
    → IsClosed slot v u → (IsTrue tells → Keeps tells (entry_by 0 (FoldClose slot) Done) v u) → Closes known slot v u
fold_closed tells known sub slot v u ours is keeps =
    known_way known tells (λ (t : Bool). Closes t slot v u) sub
    (λ b given behind quiet steps l. listed_closed tells b slot v u given behind quiet steps l ours is keeps)
    (λ b given behind quiet steps l. listed_closed false b slot v u given behind quiet steps l ours is (λ t. untold t))

pub fold_crash : (now : Moment) (v u : Shown) (f : Fold) → IsOpened 0 now v u f → CrashMeets [] v u
    → (o : Opening) (h : List Step) (tried : List Write) → StandsFor v o h tried
    → AtEach v.files.told (clock v.files.told) (MeetsEither (log_of o h) (kept_of o h) tried [])
fold_crash now v u f is crash o h tried stood =
    subst (λ (t : Told). AtEach t (clock v.files.told) (MeetsEither (log_of o h) (kept_of o h) tried []))
    (ap (λ (x : Shown). x.files.told) is.keys) (crash o h tried stood)

-- ---- the history

module _ (tells : Tells) (old new : Sides) (end : ListEnd) (now : Moment) (slot : ℕ) (mid gathered closed : Shown)
    (first : List Step) (o : Opening) (h : List Step) (tried : List Write) (f : Follows tells.disk old.store o h tried)
    (begun : Listed tells.disk (begun_at old o h tried now) slot mid [] [] 0 first)
    (moment : IsTrue tells.clock → now ≡ first_moment old.moments)
    (later : IsTrue tells.clock → new.moments ≡ later_moments old.moments)
    (crash : IsTrue tells.disk → AtEach old.store.files.told (clock old.store.files.told) (MeetsEither (log_of o h) (kept_of o h) tried []))
    (closes : Closes tells.disk slot gathered closed) where
  pub lists_all : (keys : List (List ℕ)) → Gathers tells.disk slot (end_call slot ∷ []) mid gathered keys
      → PrintsSorted tells.disk tells.sink end now keys closed new.store old.written new.written
      → Lists tells old new end o h tried
  lists_all keys gathers printed =
      let b = begun_at old o h tried now in
      let ttl = o.settings.ttl in
      let log = log_of o h in
      let g = gathers b first begun in
      let (step, l) = closes b g.rows (end_call slot ∷ []) 0 g.steps g.listed in
      let steps = g.steps ++ step ∷ [] in
      let p = printed.prints b slot g.rows (end_call slot ∷ closing_call slot ∷ []) steps l in
      let (rows, rows_are, moved) = keyed g.rows keys printed.sorted g.are printed.same in
      let are : keys_of rows ≡ asked_keys p.got ++ p.left = rows_are ∙ p.are in
      let others = behind_got p.got rows in
      let order : AreSorted g.rows rows =
      record { same = moved; rise = rows_rise rows printed.sorted rows_are printed.rise } in
      let listing : IsTrue tells.disk → IsListing ttl now.0 log [] g.rows =
      λ tell. lists_live tells.disk b slot closed g.rows steps tell l.follows l old.store f in
      record {
        now = now;
        ticks = λ tell. (moment tell, later tell);
        steps = p.goes.steps;
        lists = inl (record {
          slot = slot;
          given = g.rows;
          sorted = rows;
          order = order;
          got = p.got;
          others = others;
          are = are ∙ ap (λ (ks : List (List ℕ)). asked_keys p.got ++ ks) (sym (others_are p.got p.left rows are));
          quiet = p.quiet;
          few = p.few;
          listed = p.goes.listed;
          live = λ tell. sorted_map ttl now.0 log g.rows rows (listing tell) order;
          shows = λ tell. shown ttl log now p.got p.left rows are
              (All-permutation (λ (row : Row). live log row.key now.0 ttl ≡ Some row.value) g.rows rows moved
              (all_live ttl now.0 log [] g.rows (listing tell)))
              (got_is_live tells.disk b slot new.store g.rows p.got p.quiet p.goes.steps tell p.goes.listed);
          whole = λ is. let all = p.whole is in (no_rows others (others_are p.got p.left rows are ∙ all.0), all.1);
          prints = λ tell. p.prints tell others (others_are p.got p.left rows are);
          damaged = p.damaged;
        });
        log = log_stays tells.disk b slot new.store g.rows (end_call slot ∷ closing_call slot ∷ get_calls now p.got) p.quiet
            p.goes.steps p.goes.listed (gets_write_nothing now p.got);
        crash = λ tell. each_same (MeetsEither (log_of o h) (kept_of o h) tried []) old.store.files.told new.store.files.told
            (p.goes.listed.unmoved tell) (crash tell);
      }

  pub lists_none : Refuses tells.disk slot mid gathered → new.store ≡ closed → Stops end → new.written ≡ old.written
      → Lists tells old new end o h tried
  lists_none refuses is stops nothing =
      let b = begun_at old o h tried now in
      let r = refuses b first begun in
      let (step, last) = closes b r.given [] r.quiet r.steps r.listed in
      let all = subst (λ (u : Shown). Listed tells.disk b slot u r.given (closing_call slot ∷ []) r.quiet (r.steps ++ step ∷ [])) (sym is) last in
      record {
        now = now;
        ticks = λ tell. (moment tell, later tell);
        steps = r.steps ++ step ∷ [];
        lists = inr (record {
          slot = slot;
          given = r.given;
          quiet = r.quiet;
          few = r.few;
          listed = all;
          stops = stops;
          nothing = nothing;
        });
        log = log_stays tells.disk b slot new.store r.given (closing_call slot ∷ []) r.quiet (r.steps ++ step ∷ []) all refl;
        crash = λ tell. each_same (MeetsEither (log_of o h) (kept_of o h) tried []) old.store.files.told new.store.files.told
            (all.unmoved tell) (crash tell);
      }
