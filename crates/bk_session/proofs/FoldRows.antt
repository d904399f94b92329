-- The next pair of a fold, from what the store gave to its row.
use Rattle.std.proofs.Common.{◌≡◌, ◌∙◌, ℕ, ◌-◌, ◌≤◌, Bool, true, List, [], ◌∷◌, ◌++◌, drop}
use Rattle.std.proofs.Common.{Option, Some, None, refl, sym, ap, subst, arith, inl, inr}
use Rattle.std.specs.Prelude.{IsTrue, slice_set}
use Rattle.std.proofs.lemmas.Bool.{false_from_ne_true}
use Rattle.std.proofs.lemmas.List.{append-nil}
use Rattle.bk_base.specs.declared.calls.Answer.TheVariants.{Done, End, Pair}
use Rattle.bk_base.specs.declared.calls.Call.TheVariants.{FoldNext, Quiet}
use Rattle.bk_base.specs.declared.histories.Opening.{Opening}
use Rattle.bk_base.specs.declared.histories.Step.{Step}
use Rattle.bk_base.specs.declared.requests.Reply.{Reply}
use Rattle.bk_base.specs.declared.requests.Reply.TheVariants.{Damaged, Disk, Memory, Read}
use Rattle.bk_base.specs.declared.requests.Request.{Request}
use Rattle.bk_base.specs.declared.requests.Request.TheVariants.{Fold as fold_request, Keys as keys_request}
use Rattle.bk_base.specs.declared.writes.Write.{Write}
use Rattle.bk_exchange.specs.Listings.{Row, row_line}
use Rattle.bk_exchange.specs.Points.{AtOne, Event, events, own, point_after, point_of}
use Rattle.bk_exchange.specs.Refusals.{Cause, closes_after, may_drop}
use Rattle.bk_exchange.specs.OneThread.{QuietCalls}
use Rattle.bk_exchange.proofs.Events.{events-append, own-append, own_behind}
use Rattle.bk_keydir.specs.declared.slots.Slot.{Slot}
use Rattle.bk_keydir.specs.Slots.{past, slot_at, who_of}
use Rattle.bk_laws.specs.History.{log_of}
use Rattle.bk_laws.specs.Wire.{reply_text}
use Rattle.bk_store.specs.declared.errors.FoldError.{FoldError}
use Rattle.bk_store.specs.declared.errors.FoldError.TheVariants.{Disk as fold_disk, Memory as fold_memory, NoFold}
use Rattle.bk_store.specs.declared.folds.Row2.{Row2}
use Rattle.bk_store.specs.Events.{Keeps, entry_by, quiet_by}
use Rattle.bk_store.specs.FoldEvents.{IsFoldError, LendsPair, LendsPairOf, ListsIn, ListsNext, ListsPair}
use Rattle.bk_store.specs.FoldEvents.{lent_of, next_reply}
use Rattle.bk_store.specs.Loans.{Lent, Views, check_of, view_of}
use Rattle.bk_store.specs.Shown.{Shown}
use Rattle.bk_store.specs.Standing.{StandsFor}
use Rattle.bk_keydir.specs.Keydir.{Shown as KeydirShown}
use Rattle.bk_files.specs.Files.{Seen}
use Rattle.bk_files.specs.Catalog.{Known}
use Rattle.bk_session.specs.declared.listings.Given.{Given}
use Rattle.bk_session.specs.declared.listings.Given.TheVariants.{Row as given_row, End as given_end, Line, Sink}
use Rattle.bk_session.specs.declared.listings.Listing.{Listing}
use Rattle.bk_session.specs.declared.listings.Listing.TheVariants.{Keys, Pairs}
use Rattle.bk_session.specs.Following.{Follows, own_context}
use Rattle.bk_session.specs.Listing.{Begun, BreaksAt, Gives, RowsGoOn, IsOurs, IsUnmoved, Listed, ShowsKey, ShowsPair, request_of}
use Rattle.bk_session.specs.Refusing.{line_of_fold}
use Rattle.bk_session.specs.Outgoing.{Outgoing, Sends, Stops}
use Rattle.bk_session.proofs.Events.{Rises, Still, rises_by_fault, rises_by_faults, step_of}
use Rattle.bk_session.proofs.FoldCalls.{listed_pair, listed_still, set_here, unmoved_same}
use Rattle.bk_store.proofs.FoldSteps.{slot_within}
use Rattle.bk_session.proofs.FoldCalls.{unmoved_views}
use Rattle.bk_session.proofs.Following.{KeepsSettings}
use Rattle.bk_session.proofs.Reading.{RisesByView, rises_by_view, still_files}

-- ---- events

-- a fact of the last step of a listing
at_last : (b : Begun) (steps : List Step) (step : Step) (P : Event → Type 0) → step.entry.caller ≡ 0
    → P (record { before = point_after (point_of b.opening b.before) steps; step = step })
    → AtOne P (own 0 (events (point_of b.opening b.before) (steps ++ step ∷ [])))
at_last b steps step P caller fact =
    let p = point_of b.opening b.before in
    subst (AtOne P)
    (sym (ap (own 0) (events-append p steps (step ∷ []))
    ∙ own-append 0 (events p steps) (events (point_after p steps) (step ∷ []))
    ∙ ap (λ (es : List Event). own 0 (events p steps) ++ es) (own_behind 0 (point_after p steps) [] step tt caller)))
    (behind (own 0 (events p steps)))
  where
    behind : (es : List Event)
        → AtOne P (es ++ (record { before = point_after (point_of b.opening b.before) steps; step = step }) ∷ [])
    behind [] = inl fact
    behind (e ∷ es) = inr (behind es)

-- ---- the event

-- the fold in the slot gave this pair, of which so much is lent
pub record PairEvent (disk : Bool) (slot : ℕ) (v u : Shown) (key : List ℕ) (l : Lent) : Type 0 where
  pub view : RisesByView l.fallible v u
  pub kept : KeepsSettings v u
  pub seq : u.seq ≡ v.seq
  pub s : Slot
  pub x : Slot
  pub there : slot_at v.keys.slots slot ≡ Some s
  pub slots : u.keys.slots ≡ slice_set v.keys.slots slot (Some x)
  pub same_who : x.who ≡ s.who
  pub keeps : IsTrue disk → Keeps disk (entry_by 0 (FoldNext slot) (Pair key (drop l.value_at l.left))) v u
  pub unmoved : IsTrue disk → IsUnmoved v.files.told u.files.told
  -- where the disk tells, the checksum of what is lent is the one that was kept
  pub checked : IsTrue disk → (o : Opening) (h : List Step) (tried : List Write) → Follows disk v o h tried
      → check_of l.left ≡ l.crc

pub lists_pair : {V : Type 0} (slot : ℕ) (o : Option Slot) (v u : Shown) (row : Row2 V) → ListsIn slot o v u (Some row)
    → (s : Slot) × (o ≡ Some s) × ListsPair slot s v u row.key row.loan
lists_pair slot None v u row h = absurd h
lists_pair slot (Some s) v u row h = (s, refl, h)

-- what is lent is still to be read
pub pair_unread : {V : Type 0} (slot : ℕ) (v u : Shown) (row : Row2 V) → ListsNext 0 slot v u (Some row)
    → row.loan.rest ≡ row.loan.size
pair_unread slot v u row lists =
    let (s, there, pair) = lists_pair slot (slot_at v.keys.slots slot) v u row lists.4 in pair.lends.rest

pub lends_checked : {V : Type 0} (o : Option Slot) (log : List Write) (row : Row2 V) → LendsPairOf o log (Some row)
    → check_of row.loan.left ≡ row.loan.crc
lends_checked None log row h = absurd h
lends_checked (Some s) log row h = h.2.crc

pub pair_event : {V : Type 0} (disk : Bool) (slot : ℕ) (v u : Shown) (row : Row2 V) → ListsNext 0 slot v u (Some row)
    → RisesByView row.loan.fallible v u
    → (IsTrue disk → Keeps disk (entry_by 0 (FoldNext slot) (Pair row.key (drop row.loan.value_at row.loan.left))) v u)
    → (IsTrue disk → IsUnmoved v.files.told u.files.told)
    → (IsTrue disk → (o : Opening) (h : List Step) (tried : List Write) → StandsFor v o h tried
    → LendsPair slot v (log_of o h) (Some row))
    → PairEvent disk slot v u row.key row.loan
pair_event disk slot v u row lists view keeps unmoved lends =
    let (s, there, pair) = lists_pair slot (slot_at v.keys.slots slot) v u row lists.4 in
    record {
      view = view;
      kept = record { settings = lists.2; limit = ap (λ (k : Known). k.max_file) lists.3 };
      seq = lists.1;
      s = s;
      x = past pair.position s;
      there = there;
      slots = ap (λ (k : KeydirShown). k.slots) pair.keys;
      same_who = refl;
      keeps = keeps;
      unmoved = unmoved;
      checked = λ tell o h tried f.
          lends_checked (slot_at v.keys.slots slot) (log_of o h) row (lends tell o h tried (f.stands tell));
    }

-- the same, of what the store said that it gave
pub pair_event_of : {V : Type 0} (disk : Bool) (slot : ℕ) (v u : Shown) (found : Option (Row2 V)) (row : Row2 V)
    → found ≡ Some row → ListsNext 0 slot v u found → v.files.faults ≤ u.files.faults
    → u.files.fallible_views ≡ view_of (lent_of found) v.files.fallible_views
    → u.files.fallible_outs ≡ v.files.fallible_outs
    → (IsTrue disk → Keeps disk (entry_by 0 (FoldNext slot) (next_reply found)) v u)
    → (IsTrue disk → Views (lent_of found) v.files.told u.files.told)
    → (IsTrue disk → (o : Opening) (h : List Step) (tried : List Write) → StandsFor v o h tried
    → LendsPair slot v (log_of o h) found)
    → PairEvent disk slot v u row.key row.loan
pair_event_of {V} disk slot v u None row is lists later views outs keeps viewed lends = absurd (cc is)
pair_event_of {V} disk slot v u (Some r) row is lists later views outs keeps viewed lends =
    let same : r ≡ row = cc is in
    subst (λ (x : Row2 V). PairEvent disk slot v u x.key x.loan) same
    (pair_event disk slot v u r lists (rises_by_view r.loan.fallible v u later views outs) keeps
    (λ tell. unmoved_views (Some r.loan) v.files.told u.files.told (viewed tell)) lends)

pub unread_of : {V : Type 0} (slot : ℕ) (v u : Shown) (found : Option (Row2 V)) (row : Row2 V) → found ≡ Some row
    → ListsNext 0 slot v u found → row.loan.rest ≡ row.loan.size
unread_of {V} slot v u None row is lists = absurd (cc is)
unread_of {V} slot v u (Some r) row is lists =
    let same : r ≡ row = cc is in
    subst (λ (x : Row2 V). x.loan.rest ≡ x.loan.size) same (pair_unread slot v u r lists)

pub pair_ours : (disk : Bool) (slot : ℕ) (v u : Shown) (key : List ℕ) (l : Lent) → PairEvent disk slot v u key l → IsOurs slot v
    → IsOurs slot u
pair_ours disk slot v u key l e ours =
    ap (λ (slots : List (Option Slot)). who_of (slot_at slots slot)) e.slots
    ∙ ap who_of (set_here v.keys.slots slot (Some e.x) (slot_within v.keys.slots slot e.s e.there))
    ∙ ap (λ (n : ℕ). Some n) e.same_who ∙ sym (ap who_of e.there) ∙ ours

-- ---- the row of a pair

module _ (disk sink : Bool) (slot : ℕ) (v u : Shown) (key : List ℕ) (l : Lent) (e : PairEvent disk slot v u key l) where
  -- the pair, with this value
  pub listed_with : (b : Begun) (rows : List Row) (steps : List Step) (value : List ℕ)
      → (IsTrue disk → value ≡ drop l.value_at l.left) → Listed disk b slot v rows [] 0 steps
      → Listed disk b slot u (rows ++ (record { key = key; value = value }) ∷ []) [] 0
      (steps ++ step_of disk (entry_by 0 (FoldNext slot) (Pair key value)) (u.files.faults - v.files.faults) e.view.n u ∷ [])
  listed_with b rows steps value is listed =
      listed_pair disk b slot v u rows key value e.s e.x (u.files.faults - v.files.faults) e.view.n steps listed e.view.rises e.kept
      e.seq e.there e.slots
      (λ tell. subst (λ (x : List ℕ). Keeps disk (entry_by 0 (FoldNext slot) (Pair key x)) v u) (sym (is tell)) (e.keeps tell))
      e.unmoved

  -- the pair was given and has no row
  dropped_with : (request : Request) (b : Begun) (rows : List Row) (steps : List Step) (line : Reply)
      → Listed disk b slot v rows [] 0 steps → may_drop request line 1 ≡ true → closes_after line ≡ true
      → QuietCalls (Some line) 0
      → Cause (own_context b.opening) request line (events (point_of b.opening b.before)
      (steps ++ step_of disk (entry_by 0 (FoldNext slot) (Pair key (drop l.value_at l.left))) (u.files.faults - v.files.faults)
      e.view.n u ∷ []))
      → BreaksAt disk request b slot u rows line
  dropped_with request b rows steps line listed may closes counts cause = record {
    steps = steps ++ step_of disk (entry_by 0 (FoldNext slot) (Pair key (drop l.value_at l.left)))
        (u.files.faults - v.files.faults) e.view.n u ∷ [];
    dropped = (record { key = key; value = drop l.value_at l.left }) ∷ [];
    quiet = 0;
    listed = listed_with b rows steps (drop l.value_at l.left) (λ tell. refl) listed;
    may = may;
    closes = closes;
    counts = counts;
    cause = cause;
  }

  goes_on_with : (request : Request) (b : Begun) (rows : List Row) (steps : List Step) (value : List ℕ)
      (Out : List ℕ → Type 0) → (IsTrue disk → value ≡ drop l.value_at l.left) → Listed disk b slot v rows [] 0 steps
      → Out (reply_text (row_line request (record { key = key; value = value })))
      → RowsGoOn disk request b slot u rows Out
  goes_on_with request b rows steps value Out is listed out = record {
    steps = steps ++ step_of disk (entry_by 0 (FoldNext slot) (Pair key value)) (u.files.faults - v.files.faults) e.view.n u ∷ [];
    row = record { key = key; value = value };
    listed = listed_with b rows steps value is listed;
    out = out;
  }

  -- KEYS
  pub gives_key : (given : Given) (out new : Outgoing) → ShowsKey given sink key out new
      → Gives given disk sink keys_request slot v out u new
  gives_key given_row out new shows =
      λ b rows steps listed. goes_on_with keys_request b rows steps (drop l.value_at l.left)
      (λ text. IsTrue sink → Sends out text new) (λ tell. refl) listed shows
  gives_key given_end out new shows = absurd shows
  gives_key (Line line) out new shows = (
    shows.1,
    λ b rows steps listed.
        subst (λ (x : Reply). BreaksAt disk keys_request b slot u rows x) (sym shows.0)
        (dropped_with keys_request b rows steps Memory listed refl refl (omega arith) tt),
  )
  gives_key Sink out new shows =
      λ b rows steps listed. goes_on_with keys_request b rows steps (drop l.value_at l.left)
      (λ text. IsTrue sink → Stops out text new) (λ tell. refl) listed shows

  -- the last step of a listing made a view that may fail
  view_at_last : (b : Begun) (steps : List Step) → l.fallible ≡ true
      → AtOne (λ (x : Event). 1 ≤ x.step.views) (own 0 (events (point_of b.opening b.before)
      (steps ++ step_of disk (entry_by 0 (FoldNext slot) (Pair key (drop l.value_at l.left))) (u.files.faults - v.files.faults)
      e.view.n u ∷ [])))
  view_at_last b steps fallible =
      at_last b steps
      (step_of disk (entry_by 0 (FoldNext slot) (Pair key (drop l.value_at l.left))) (u.files.faults - v.files.faults) e.view.n u)
      (λ (x : Event). 1 ≤ x.step.views) refl (e.view.some fallible)

  -- FOLD
  pub gives_pair : (views : Bool) (given : Given) (out new : Outgoing) → (IsTrue disk → IsTrue views)
      → ShowsPair given views sink key l out new → Gives given disk sink fold_request slot v out u new
  gives_pair views given_row out new hears shows =
      λ b rows steps listed. goes_on_with fold_request b rows steps shows.0 (λ text. IsTrue sink → Sends out text new)
      (λ tell. shows.1 (hears tell)) listed shows.2
  gives_pair views given_end out new hears shows = absurd shows.2
  gives_pair views (Line Read) out new hears shows = (
    shows.1,
    λ b rows steps listed. dropped_with fold_request b rows steps Read listed refl refl refl
        (view_at_last b steps shows.0),
  )
  gives_pair views (Line (Damaged d)) out new hears shows = (
    shows.1,
    λ b rows steps listed. dropped_with fold_request b rows steps (Damaged d) listed refl refl refl (
      shows.0.2,
      false_from_ne_true b.opening.whole (λ whole.
          let tell = listed.follows.whole whole in
          shows.0.2 (shows.0.3 ∙ sym (e.checked tell b.opening (b.before ++ steps) b.tried listed.follows)
          ∙ sym (shows.0.4 (hears tell)))),
    ),
  )
  gives_pair views (Line Memory) out new hears shows = (
    shows.1,
    λ b rows steps listed. dropped_with fold_request b rows steps Memory listed refl refl (omega arith) tt,
  )
  gives_pair views (Line line) out new hears shows = absurd shows.0
  gives_pair views Sink out new hears shows =
      λ b rows steps listed. goes_on_with fold_request b rows steps shows.0 (λ text. IsTrue sink → Stops out text new)
      (λ tell. shows.1 (hears tell)) listed shows.2

-- ---- the fold's end, and a refusal

lists_end : {V : Type 0} (slot : ℕ) (o : Option Slot) (v u : Shown) (found : Option (Row2 V)) → found ≡ None
    → ListsIn slot o v u found → u ≡ v
lists_end slot None v u found is h = absurd h
lists_end slot (Some s) v u None is h = h.1
lists_end slot (Some s) v u (Some row) is h = absurd (cc is)

pub end_same : {V : Type 0} (slot : ℕ) (v u : Shown) (found : Option (Row2 V)) → found ≡ None → ListsNext 0 slot v u found → u ≡ v
end_same slot v u found is lists = lists_end slot (slot_at v.keys.slots slot) v u found is lists.4

pub end_reply : {V : Type 0} (found : Option (Row2 V)) → found ≡ None → next_reply found ≡ End
end_reply None is = refl
end_reply (Some row) is = absurd (cc is)

pub gives_end : (disk sink : Bool) (request : Request) (slot : ℕ) (v u : Shown) (out : Outgoing) → u ≡ v
    → (IsTrue disk → Keeps disk (entry_by 0 (FoldNext slot) End) v u) → Gives given_end disk sink request slot v out u out
gives_end disk sink request slot v u out same keeps = (
  refl,
  λ b rows steps listed.
      let files : u.files ≡ v.files = ap (λ (y : Shown). y.files) same in
      let n = u.files.faults - v.files.faults in (
        steps ++ step_of disk (entry_by 0 (FoldNext slot) End) n 0 u ∷ [],
        listed_still disk b slot v u rows (FoldNext slot) End n steps listed
            (rises_by_faults v u (omega (arith, ap (λ (y : Seen). y.faults) files)) (ap (λ (y : Seen). y.fallible_views) files)
            (ap (λ (y : Seen). y.fallible_outs) files))
            (record {
              kept = record {
                settings = ap (λ (y : Shown). y.settings) same;
                limit = ap (λ (y : Seen). y.catalog.max_file) files;
              };
              seq = ap (λ (y : Shown). y.seq) same;
              slots = ap (λ (y : Shown). y.keys.slots) same;
            })
            (λ s. refl) keeps (λ tell. unmoved_same v.files.told u.files.told (ap (λ (y : Seen). y.told) files)),
      ),
)

still_of : (slot : ℕ) (v u : Shown) (e : FoldError) → IsFoldError 0 slot v u e → IsOurs slot v → Still v u
still_of slot v u (NoFold n) why ours = absurd (why.1 ours)
still_of slot v u fold_disk why ours = still_files v u why.1 why.2
still_of slot v u fold_memory why ours = still_files v u why.1 why.2

refused_at : (disk : Bool) (request : Request) (slot : ℕ) (v u : Shown) (line : Reply) (faults : ℕ) (b : Begun) (rows : List Row)
    (steps : List Step) → Listed disk b slot v rows [] 0 steps → Rises v u faults 0 → Still v u
    → (IsTrue disk → Keeps disk (quiet_by 0) v u) → (IsTrue disk → IsUnmoved v.files.told u.files.told)
    → may_drop request line 0 ≡ true → closes_after line ≡ true → QuietCalls (Some line) 1
    → Cause (own_context b.opening) request line (events (point_of b.opening b.before)
    (steps ++ step_of disk (quiet_by 0) faults 0 u ∷ []))
    → BreaksAt disk request b slot u rows line
refused_at disk request slot v u line faults b rows steps listed rises still keeps unmoved may closes counts cause = record {
  steps = steps ++ step_of disk (quiet_by 0) faults 0 u ∷ [];
  dropped = [];
  quiet = 1;
  listed = subst (λ (given : List Row). Listed disk b slot u given [] 1 (steps ++ step_of disk (quiet_by 0) faults 0 u ∷ []))
      (sym (append-nil rows))
      (listed_still disk b slot v u rows Quiet Done faults steps listed rises still (λ s. refl) keeps unmoved);
  may = may;
  closes = closes;
  counts = counts;
  cause = cause;
}

may_disk : (listing : Listing) → may_drop (request_of listing) Disk 0 ≡ true
may_disk Keys = refl
may_disk Pairs = refl

pub may_memory : (listing : Listing) → may_drop (request_of listing) Memory 0 ≡ true
may_memory Keys = refl
may_memory Pairs = refl

pub gives_refusal : (disk sink : Bool) (listing : Listing) (slot : ℕ) (v u : Shown) (out : Outgoing) (e : FoldError)
    → IsFoldError 0 slot v u e → IsOurs slot v → v.files.faults ≤ u.files.faults
    → u.files.fallible_views ≡ v.files.fallible_views → u.files.fallible_outs ≡ v.files.fallible_outs
    → (IsTrue disk → Keeps disk (quiet_by 0) v u) → (IsTrue disk → IsUnmoved v.files.told u.files.told)
    → Gives (Line (line_of_fold e)) disk sink (request_of listing) slot v out u out
gives_refusal disk sink listing slot v u out (NoFold n) why ours later views outs keeps unmoved = absurd (why.1 ours)
gives_refusal disk sink listing slot v u out fold_disk why ours later views outs keeps unmoved = (
  refl,
  λ b rows steps listed.
      let r = rises_by_fault v u later why.3 views outs in
      refused_at disk (request_of listing) slot v u Disk r.n b rows steps listed r.rises
      (still_of slot v u fold_disk why ours) keeps unmoved (may_disk listing) refl refl
      (at_last b steps (step_of disk (quiet_by 0) r.n 0 u) (λ (x : Event). 1 ≤ x.step.faults) refl r.some),
)
gives_refusal disk sink listing slot v u out fold_memory why ours later views outs keeps unmoved = (
  refl,
  λ b rows steps listed.
      refused_at disk (request_of listing) slot v u Memory (u.files.faults - v.files.faults) b rows steps listed
      (rises_by_faults v u later views outs) (still_of slot v u fold_memory why ours) keeps unmoved (may_memory listing) refl
      (omega arith) tt,
)

-- the slot stays ours
pub refusal_ours : (slot : ℕ) (v u : Shown) (e : FoldError) → IsFoldError 0 slot v u e → IsOurs slot v → IsOurs slot u
refusal_ours slot v u e why ours =
    ap (λ (slots : List (Option Slot)). who_of (slot_at slots slot)) (still_of slot v u e why ours).slots ∙ ours
