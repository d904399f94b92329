-- How a listing ends, and what its request shows then.
use Rattle.std.proofs.Common.{◌≡◌, ◌∙◌, ℕ, ◌+◌, ◌-◌, ◌<◌, ◌≤◌, Bool, true, false, List, [], ◌∷◌, ◌++◌, length}
use Rattle.std.proofs.Common.{Option, Some, refl, sym, ap, subst, arith, inl, inr}
use Rattle.std.specs.Prelude.{IsTrue, ◌≢◌, is_some}
use Rattle.std.specs.List.{flat_map}
use Rattle.std.proofs.lemmas.Bool.{true≢false}
use Rattle.std.proofs.lemmas.List.{append-nil, length-append, map-append}
use Rattle.bk_base.specs.declared.histories.Opening.{Opening}
use Rattle.bk_base.specs.declared.histories.Step.{Step}
use Rattle.bk_base.specs.declared.numbers.Moment.{Moment}
use Rattle.bk_base.specs.declared.requests.Reply.{Reply}
use Rattle.bk_base.specs.declared.requests.Reply.TheVariants.{Damaged, Disk, End, Full, Memory, Read}
use Rattle.bk_base.specs.declared.requests.Full.TheVariants.{Folds, Turns}
use Rattle.bk_base.specs.declared.limits.TheConstants.{MOST_FOLDS}
use Rattle.bk_base.specs.declared.requests.Request.{Request}
use Rattle.bk_base.specs.declared.writes.Write.{Write}
use Rattle.bk_disk.specs.Told.{clock}
use Rattle.bk_exchange.specs.Answers.{Answers, Context, own_calls}
use Rattle.bk_exchange.specs.Exchanges.{IsExchange, asked_in, asks_clock, last_of, moment_of}
use Rattle.bk_exchange.specs.Listings.{Row, closing_call, end_call, row_line, row_lines}
use Rattle.bk_exchange.specs.Answers.{Lists}
use Rattle.bk_exchange.specs.OneThread.{QuietCalls, quiet_in}
use Rattle.bk_exchange.specs.Points.{AtOne, Event, Point, Said, events, own, point_after, point_of}
use Rattle.bk_exchange.specs.Refusals.{Breaks, Cause, ClosesIf, Fails, NoSlotIsFree, closes_after, is_listing, is_quit}
use Rattle.bk_exchange.specs.Refusals.{may_drop, may_refuse}
use Rattle.bk_exchange.specs.Sessions.{Ticks, first_moment, later_moments}
use Rattle.bk_exchange.specs.Writes.{told_by}
use Rattle.bk_exchange.proofs.Bodies.{one_refusal}
use Rattle.bk_exchange.proofs.Events.{events-append, own-append, state_of_point}
use Rattle.bk_keydir.specs.Slots.{slot_at}
use Rattle.bk_laws.specs.History.{State, is_open}
use Rattle.bk_laws.specs.Wire.{Fits, reply_text}
use Rattle.bk_store.specs.Events.{CrashMeets, Keeps, KeepsPast, quiet_by}
use Rattle.bk_store.specs.Shown.{Shown}
use Rattle.bk_store.proofs.Pasts.{past_same, past_then}
use Rattle.bk_files.specs.Files.{Seen}
use Rattle.bk_session.specs.declared.listings.Given.TheVariants.{Row as given_row, End as given_end, Line, Sink as given_sink}
use Rattle.bk_session.specs.declared.listings.Listing.{Listing}
use Rattle.bk_session.specs.declared.listings.Listing.TheVariants.{Keys, Pairs}
use Rattle.bk_session.specs.declared.serving.Onward.{Onward}
use Rattle.bk_session.specs.declared.serving.Onward.TheVariants.{Next, Quit, Sink as sink_failed}
use Rattle.bk_session.specs.Following.{Follows, own_context}
use Rattle.bk_session.specs.Listing.{Begun, BreaksAt, Closes, Ended, EndsAll, Gives, IsOurs, Listed, Rows}
use Rattle.bk_session.specs.Listing.{request_of, rows_text}
use Rattle.bk_session.specs.Outgoing.{Outgoing, Sends, Stops}
use Rattle.bk_session.specs.Replying.{exchange_of}
use Rattle.bk_session.specs.Serving.{SessionState, SendsAs, Serves, Tells}
use Rattle.bk_session.proofs.Events.{at_event, counts_of, is_step_of, rises_by_faults, step_of}
use Rattle.bk_session.proofs.FoldCalls.{same_clock}
use Rattle.bk_session.proofs.Following.{follows_still}
use Rattle.bk_session.proofs.Texts.{sends_lines, sends_none}
use Rattle.bk_session.proofs.OneLine.{as_served, at_told, sends_line}
use Rattle.bk_exchange.proofs.Causes.{last-append}
use Rattle.bk_session.proofs.FoldRows.{may_memory}

-- ---- what the two requests share

list_fits : (listing : Listing) → Fits (request_of listing)
list_fits Keys = tt
list_fits Pairs = tt

list_asks : (listing : Listing) → true ≡ asks_clock (request_of listing)
list_asks Keys = refl
list_asks Pairs = refl

pub list_is : (listing : Listing) → is_listing (request_of listing) ≡ true
list_is Keys = refl
list_is Pairs = refl

list_goes : (listing : Listing) → is_quit (request_of listing) ≡ false
list_goes Keys = refl
list_goes Pairs = refl

list_told : (listing : Listing) (now : Moment) (replies : List Reply) → told_by (request_of listing) now replies ≡ []
list_told Keys now replies = refl
list_told Pairs now replies = refl

lists_answer : (listing : Listing) (c : Context) (now : Moment) (es : List Event) (replies : List Reply)
    → Lists (request_of listing) now (own_calls c es) replies → Answers c (request_of listing) now es replies
lists_answer Keys c now es replies h = h
lists_answer Pairs c now es replies h = h

breaks_fail : (listing : Listing) (c : Context) (now : Moment) (es : List Event) (replies : List Reply)
    → Breaks c (request_of listing) now es replies → Fails c (request_of listing) now es replies
breaks_fail Keys c now es replies h = h
breaks_fail Pairs c now es replies h = h

closes_if : (b : Bool) (slot : ℕ) (dropped : List Row) (behind : List Said) → b ≡ true → behind ≡ closing_call slot ∷ []
    → ClosesIf b slot dropped behind
closes_if true slot dropped behind is h = h
closes_if false slot dropped behind is h = absurd (true≢false (sym is))

-- a listing that was cut has no quiet call
quiet_rows : (listing : Listing) (rows : List Row) → QuietCalls (last_of (row_lines (request_of listing) rows)) 0
quiet_rows listing [] = refl
quiet_rows Keys (row ∷ []) = refl
quiet_rows Pairs (row ∷ []) = refl
quiet_rows Keys (row ∷ next ∷ rows) = quiet_rows Keys (next ∷ rows)
quiet_rows Pairs (row ∷ next ∷ rows) = quiet_rows Pairs (next ∷ rows)

-- ---- the end

-- the last line stands behind the rows
pub ended_by : (disk sink : Bool) (listing : Listing) (onward : Onward) (b : Begun) (slot : ℕ) (v : Shown) (given rows : List Row)
    (behind : List Said) (quiet : ℕ) (steps : List Step) (line : Reply) (out mid new : Outgoing)
    → Listed disk b slot v given behind quiet steps
    → IsExchange (own_context b.opening) (point_of b.opening b.before)
    (exchange_of (request_of listing) (Some b.now) steps (row_lines (request_of listing) rows ++ line ∷ []))
    → QuietCalls (Some line) quiet → onward ≢ Quit
    → (IsTrue sink → Sends out (rows_text (request_of listing) rows) mid)
    → (IsTrue sink → SendsAs onward mid (reply_text line) new) → Ended disk sink (request_of listing) onward b out v new
ended_by disk sink listing onward b slot v given rows behind quiet steps line out mid new l is counts within sent last =
    let request = request_of listing in
    let replies = row_lines request rows ++ line ∷ [] in
    let x = exchange_of request (Some b.now) steps replies in
    record {
      x = x;
      asked = refl;
      moment = refl;
      is = as_served onward (own_context b.opening) (point_of b.opening b.before) x within is (list_goes listing);
      own = record {
        alone = l.alone;
        few = λ other. absurd (true≢false (sym (list_is listing) ∙ other));
        quiet = subst (λ (o : Option Reply). QuietCalls o (quiet_in steps)) (sym (last-append (row_lines request rows) line))
            (subst (QuietCalls (Some line)) (sym l.quiet_calls) counts);
      };
      follows = l.follows;
      unmoved = l.unmoved;
      since = l.since;
      writes = λ tell. sends_lines onward out mid new (row_lines request rows) line (sent tell) (last tell);
    }

-- END: all pairs have a row
pub ends_whole : (disk sink : Bool) (listing : Listing) (onward : Onward) (b : Begun) (slot : ℕ) (v : Shown) (rows : List Row)
    (count : ℕ) (steps : List Step) (out mid new : Outgoing) → length rows ≡ count
    → Listed disk b slot v rows (end_call slot ∷ closing_call slot ∷ []) 0 steps → onward ≢ Quit
    → (IsTrue sink → Sends out (rows_text (request_of listing) rows) mid)
    → (IsTrue sink → SendsAs onward mid (reply_text (End count)) new) → Ended disk sink (request_of listing) onward b out v new
ends_whole disk sink listing onward b slot v rows count steps out mid new many l within sent last =
    let request = request_of listing in
    let lines = row_lines request rows ++ End count ∷ [] in
    ended_by disk sink listing onward b slot v rows rows (end_call slot ∷ closing_call slot ∷ []) 0 steps (End count) out mid new l
    (record {
      fits = list_fits listing;
      clock = list_asks listing;
      replied = inl (lists_answer listing (own_context b.opening) b.now (events (point_of b.opening b.before) steps) lines (record {
        epoch = l.epoch;
        slot = slot;
        rows = rows;
        called = l.called;
        lines = ap (λ (n : ℕ). row_lines request rows ++ End n ∷ []) (sym many);
      }));
    })
    refl within sent last

-- an event of the steps so far
at_earlier : (c : Context) (p : Point) (steps more : List Step) (P : Event → Type 0) → AtOne P (own c.who (events p steps))
    → AtOne P (own c.who (events p (steps ++ more)))
at_earlier c p steps more P at =
    subst (AtOne P)
    (sym (ap (own c.who) (events-append p steps more) ∙ own-append c.who (events p steps) (events (point_after p steps) more)))
    (on (own c.who (events p steps)) at)
  where
    on : (es : List Event) → AtOne P es → AtOne P (es ++ own c.who (events (point_after p steps) more))
    on [] none = absurd none
    on (e ∷ es) (inl here) = inl here
    on (e ∷ es) (inr later) = inr (on es later)

-- a cause at one of the steps so far is one at all of them
cause_on : (listing : Listing) (c : Context) (p : Point) (line : Reply) (steps more : List Step) (n : ℕ)
    → may_drop (request_of listing) line n ≡ true → closes_after line ≡ true
    → Cause c (request_of listing) line (events p steps) → Cause c (request_of listing) line (events p (steps ++ more))
cause_on listing c p Memory steps more n may closes cause = tt
cause_on listing c p Disk steps more n may closes cause = at_earlier c p steps more (λ (e : Event). 1 ≤ e.step.faults) cause
cause_on listing c p Read steps more n may closes cause = at_earlier c p steps more (λ (e : Event). 1 ≤ e.step.views) cause
cause_on listing c p (Damaged d) steps more n may closes cause = cause
cause_on listing c p (Full Turns) steps more n may closes cause = absurd (true≢false (sym closes))
cause_on Keys c p line steps more n may closes cause = absurd (true≢false (sym may))
cause_on Pairs c p line steps more n may closes cause = absurd (true≢false (sym may))

-- a line in the place of END
pub ends_broken : (disk sink : Bool) (listing : Listing) (onward : Onward) (b : Begun) (slot : ℕ) (v u : Shown) (rows : List Row)
    (line : Reply) (out mid new : Outgoing) (k : BreaksAt disk (request_of listing) b slot v rows line) (step : Step)
    → Listed disk b slot u (rows ++ k.dropped) (closing_call slot ∷ []) k.quiet (k.steps ++ step ∷ []) → onward ≢ Quit
    → (IsTrue sink → Sends out (rows_text (request_of listing) rows) mid)
    → (IsTrue sink → SendsAs onward mid (reply_text line) new) → Ended disk sink (request_of listing) onward b out u new
ends_broken disk sink listing onward b slot v u rows line out mid new k step l within sent last =
    let request = request_of listing in
    let lines = row_lines request rows ++ line ∷ [] in
    let steps = k.steps ++ step ∷ [] in
    ended_by disk sink listing onward b slot u (rows ++ k.dropped) rows (closing_call slot ∷ []) k.quiet steps line out mid new l
    (record {
      fits = list_fits listing;
      clock = list_asks listing;
      replied = inr (inr (breaks_fail listing (own_context b.opening) b.now (events (point_of b.opening b.before) steps) lines
          (record {
            epoch = l.epoch;
            slot = slot;
            rows = rows;
            dropped = k.dropped;
            behind = closing_call slot ∷ [];
            line = line;
            called = l.called;
            lines = refl;
            may = k.may;
            closes = closes_if (closes_after line) slot k.dropped (closing_call slot ∷ []) k.closes refl;
            cause = cause_on listing (own_context b.opening) (point_of b.opening b.before) line k.steps (step ∷ [])
                (length k.dropped) k.may k.closes k.cause;
          })));
    })
    k.counts within sent last

-- the sink failed at the last row
pub ends_cut : (disk sink : Bool) (listing : Listing) (b : Begun) (slot : ℕ) (v : Shown) (rows : List Row) (row : Row)
    (steps : List Step) (out mid new : Outgoing)
    → Listed disk b slot v (rows ++ row ∷ []) (closing_call slot ∷ []) 0 steps
    → (IsTrue sink → Sends out (rows_text (request_of listing) rows) mid)
    → (IsTrue sink → Stops mid (reply_text (row_line (request_of listing) row)) new)
    → Ended disk sink (request_of listing) sink_failed b out v new
ends_cut disk sink listing b slot v rows row steps out mid new l sent last =
    let request = request_of listing in
    let all = rows ++ row ∷ [] in
    record {
      x = exchange_of request (Some b.now) steps (row_lines request all);
      asked = refl;
      moment = refl;
      is = inr (inr (record {
        listing = list_is listing;
        clock = refl;
        epoch = l.epoch;
        slot = slot;
        rows = all;
        behind = closing_call slot ∷ [];
        called = l.called;
        closes = refl;
        lines = refl;
      }));
      own = record {
        alone = l.alone;
        few = λ other. absurd (true≢false (sym (list_is listing) ∙ other));
        quiet = subst (QuietCalls (last_of (row_lines request all))) (sym l.quiet_calls) (quiet_rows listing all);
      };
      follows = l.follows;
      unmoved = l.unmoved;
      since = l.since;
      writes = λ tell.
          subst (λ (l : List Reply). SendsAs sink_failed out (flat_map reply_text l) new)
          (sym (map-append (row_line request) rows (row ∷ [])))
          (sends_lines sink_failed out mid new (row_lines request rows) (row_line request row) (sent tell) (last tell));
    }

-- one row more, of which the text goes out
pub rows_more : (disk sink : Bool) (listing : Listing) (b : Begun) (slot count : ℕ) (out mid new : Outgoing) (v u : Shown)
    (r : Rows disk sink (request_of listing) b slot count out v mid) (row : Row) (steps : List Step)
    → Listed disk b slot u (r.rows ++ row ∷ []) [] 0 steps
    → (IsTrue sink → Sends mid (reply_text (row_line (request_of listing) row)) new)
    → Rows disk sink (request_of listing) b slot (count + 1) out u new
rows_more disk sink listing b slot count out mid new v u r row steps l sent =
    let request = request_of listing in
    record {
      rows = r.rows ++ row ∷ [];
      steps = steps;
      many = omega (arith, length-append r.rows (row ∷ []), r.many);
      listed = l;
      sent = λ tell.
          subst (λ (l : List Reply). Sends out (flat_map reply_text l) new)
          (sym (map-append (row_line request) r.rows (row ∷ [])))
          (sends_lines Next out mid new (row_lines request r.rows) (row_line request row) (r.sent tell) (sent tell));
    }

-- no pair yet
pub rows_none : (disk sink : Bool) (listing : Listing) (b : Begun) (slot : ℕ) (out : Outgoing) (v : Shown) (steps : List Step)
    → Listed disk b slot v [] [] 0 steps → Rows disk sink (request_of listing) b slot 0 out v out
rows_none disk sink listing b slot out v steps l = record {
  rows = [];
  steps = steps;
  many = refl;
  listed = l;
  sent = λ tell. sends_none out;
}

may_be_full_folds : (listing : Listing) → may_refuse (request_of listing) (Full Folds) ≡ true
may_be_full_folds Keys = refl
may_be_full_folds Pairs = refl

-- after any rows the listing may end for memory
pub breaks_for_memory : (disk : Bool) (listing : Listing) (b : Begun) (slot : ℕ) (v : Shown) (rows : List Row) (steps : List Step)
    → Listed disk b slot v rows [] 0 steps → BreaksAt disk (request_of listing) b slot v rows Memory
breaks_for_memory disk listing b slot v rows steps l = record {
  steps = steps;
  dropped = [];
  quiet = 0;
  listed = subst (λ (given : List Row). Listed disk b slot v given [] 0 steps) (sym (append-nil rows)) l;
  may = may_memory listing;
  closes = refl;
  counts = omega arith;
  cause = tt;
}

-- ---- the request

-- a listing was opened, and came to its end
pub listing_served : (t : Tells) (listing : Listing) (onward : Onward) (old new : SessionState) (now : Moment)
    → (IsTrue t.clock → now ≡ first_moment old.moments) → (IsTrue t.clock → new.moments ≡ later_moments old.moments)
    → ((o : Opening) (h : List Step) (tried : List Write) → Follows t.disk old.store o h tried
    → Ended t.disk t.sink (request_of listing) onward
    (record { opening = o; before = h; tried = tried; now = now; told = old.store.files.told }) old.out new.store new.out)
    → Serves t (request_of listing) onward old new
listing_served t listing onward old new now first later ends o h tried f =
    let e = ends o h tried f in
    record {
      x = e.x;
      left = tried;
      asked = e.asked;
      is = e.is;
      own = e.own;
      ticks = λ tell. subst (λ (m : Option Moment). Ticks (asked_in m) old.moments new.moments) (sym e.moment)
          (first tell, later tell);
      follows = e.follows;
      tries = inr (inl (
        refl,
        subst (λ (r : Request). told_by r (moment_of e.x.now) e.x.replies ≡ []) (sym e.asked)
            (list_told listing (moment_of e.x.now) e.x.replies),
      ));
      since = e.since;
      crash = λ tell k low high.
          absurd (omega (arith, low, high, same_clock old.store.files.told new.store.files.told (e.unmoved tell)));
      writes = e.writes;
    }

-- a listing that ended at a refusal: no slot was free
pub full_served : (t : Tells) (listing : Listing) (onward : Onward) (old new : SessionState) (now : Moment)
    → (IsTrue t.clock → now ≡ first_moment old.moments) → (IsTrue t.clock → new.moments ≡ later_moments old.moments)
    → new.store ≡ old.store
    → ((n : ℕ) → n < MOST_FOLDS → is_some (slot_at old.store.keys.slots n) ≡ true)
    → (IsTrue t.disk → Keeps t.disk (quiet_by 0) old.store new.store) → (IsTrue t.disk → CrashMeets [] old.store new.store)
    → onward ≢ Quit → (IsTrue t.sink → SendsAs onward old.out (reply_text (Full Folds)) new.out)
    → Serves t (request_of listing) onward old new
full_served t listing onward old new now first later same all keeps crash within sent o h tried f =
    let request = request_of listing in
    let v = old.store in
    let u = new.store in
    let files : u.files ≡ v.files = ap (λ (y : Shown). y.files) same in
    let n = u.files.faults - v.files.faults in
    let rises = rises_by_faults v u (omega (arith, ap (λ (y : Seen). y.faults) files)) (ap (λ (y : Seen). y.fallible_views) files)
    (ap (λ (y : Seen). y.fallible_outs) files) in
    let step = step_of t.disk (quiet_by 0) n 0 u in
    let x = exchange_of request (Some now) (step ∷ []) (Full Folds ∷ []) in
    let p = point_of o h in
    record {
      x = x;
      left = tried;
      asked = refl;
      is = as_served onward (own_context o) p x within (record {
        fits = list_fits listing;
        clock = list_asks listing;
        replied = inr (inl (one_refusal (own_context o) p [] step request (Full Folds) tt refl (may_be_full_folds listing)
            (at_event o h step (λ (e : Event). NoSlotIsFree e.before.state) refl (λ slot low.
            ap (λ (s : State). is_open slot s) (state_of_point o h) ∙ f.agrees.slots slot low ∙ all slot low))));
      }) (list_goes listing);
      own = record {
        alone = (refl, tt);
        few = λ other. omega arith;
        quiet = refl;
      };
      ticks = λ tell. (first tell, later tell);
      follows = follows_still t.disk v u o h tried tried step (quiet_by 0) f (counts_of t.disk (quiet_by 0) n 0 v u rises) refl
          refl
          (record {
            settings = ap (λ (y : Shown). y.settings) same;
            limit = ap (λ (y : Seen). y.catalog.max_file) files;
          })
          (ap (λ (y : Shown). y.seq) same) (ap (λ (y : Shown). y.keys.slots) same)
          (λ tell. keeps tell o h tried step (f.stands tell) (is_step_of t.disk (quiet_by 0) n 0 v u tell rises) refl);
      tries = inr (inl (refl, list_told listing now (Full Folds ∷ [])));
      since = λ tell. (
        (clock u.files.told, at_told t.disk u.files.told tell, omega (arith, ap (λ (y : Seen). clock y.told) files)),
        tt,
      );
      crash = λ tell k low high. absurd (omega (arith, low, high, ap (λ (y : Seen). clock y.told) files));
      writes = λ tell. sends_line onward old.out new.out (Full Folds) (sent tell);
    }

-- ---- the loop over the pairs

-- what holds before each pair
pub record LoopRows (disk sink : Bool) (request : Request) (slot : ℕ) (first : Shown) (out : Outgoing) (faults : ℕ) (v : Shown)
    (now : Outgoing) (faults_now count : ℕ) : Type 0 where
  pub rows : (b : Begun) (steps : List Step) → Listed disk b slot first [] [] 0 steps
      → Rows disk sink request b slot count out v now
  pub ours : IsOurs slot v
  pub past : IsTrue disk → KeepsPast first.files.told v.files.told
  pub later : faults ≤ faults_now

pub loop_begins : (disk sink : Bool) (listing : Listing) (slot : ℕ) (v : Shown) (out : Outgoing) (faults : ℕ) → IsOurs slot v
    → LoopRows disk sink (request_of listing) slot v out faults v out faults 0
loop_begins disk sink listing slot v out faults ours = record {
  rows = λ b steps l. rows_none disk sink listing b slot out v steps l;
  ours = ours;
  past = λ tell. past_same v.files.told v.files.told refl;
  later = omega arith;
}

pub loop_on : (disk sink : Bool) (listing : Listing) (slot : ℕ) (first : Shown) (out : Outgoing) (f0 : ℕ) (v : Shown) (mid : Outgoing)
    (f1 count : ℕ) (u : Shown) (new : Outgoing) (f2 : ℕ)
    → LoopRows disk sink (request_of listing) slot first out f0 v mid f1 count
    → Gives given_row disk sink (request_of listing) slot v mid u new → IsOurs slot u
    → (IsTrue disk → KeepsPast v.files.told u.files.told) → f1 ≤ f2
    → LoopRows disk sink (request_of listing) slot first out f0 u new f2 (count + 1)
loop_on disk sink listing slot first out f0 v mid f1 count u new f2 l gives ours past later = record {
  rows = λ b steps begun.
      let r = l.rows b steps begun in
      let more = gives b r.rows r.steps r.listed in
      rows_more disk sink listing b slot count out mid new v u r more.row more.steps more.listed more.out;
  ours = ours;
  past = λ tell. past_then first.files.told v.files.told u.files.told (l.past tell) (past tell);
  later = omega (arith, l.later, later);
}

pub loop_ends : (disk sink : Bool) (listing : Listing) (onward : Onward) (slot : ℕ) (first : Shown) (out : Outgoing) (f0 : ℕ)
    (v : Shown) (mid : Outgoing) (f1 count : ℕ) (u w : Shown) (same new : Outgoing)
    → LoopRows disk sink (request_of listing) slot first out f0 v mid f1 count
    → Gives given_end disk sink (request_of listing) slot v mid u same → Closes disk slot u w → onward ≢ Quit
    → (IsTrue sink → SendsAs onward same (reply_text (End count)) new)
    → EndsAll disk sink (request_of listing) onward slot first out w new
loop_ends disk sink listing onward slot first out f0 v mid f1 count u w same new l gives closes within sent b steps begun =
    let r = l.rows b steps begun in
    let (later, m) = gives.1 b r.rows r.steps r.listed in
    let (step, k) = closes b r.rows (end_call slot ∷ []) 0 later m in
    ends_whole disk sink listing onward b slot w r.rows count (later ++ step ∷ []) out mid new r.many k within r.sent
    (λ tell. subst (λ (x : Outgoing). SendsAs onward x (reply_text (End count)) new) gives.0 (sent tell))

pub loop_breaks : (disk sink : Bool) (listing : Listing) (onward : Onward) (slot : ℕ) (first : Shown) (out : Outgoing) (f0 : ℕ)
    (v : Shown) (mid : Outgoing) (f1 count : ℕ) (u w : Shown) (same new : Outgoing) (line : Reply)
    → LoopRows disk sink (request_of listing) slot first out f0 v mid f1 count
    → Gives (Line line) disk sink (request_of listing) slot v mid u same → Closes disk slot u w → onward ≢ Quit
    → (IsTrue sink → SendsAs onward same (reply_text line) new)
    → EndsAll disk sink (request_of listing) onward slot first out w new
loop_breaks disk sink listing onward slot first out f0 v mid f1 count u w same new line l gives closes within sent b steps begun =
    let r = l.rows b steps begun in
    let k = gives.1 b r.rows r.steps r.listed in
    let (step, m) = closes b (r.rows ++ k.dropped) [] k.quiet k.steps k.listed in
    ends_broken disk sink listing onward b slot u w r.rows line out mid new k step m within r.sent
    (λ tell. subst (λ (x : Outgoing). SendsAs onward x (reply_text line) new) gives.0 (sent tell))

pub loop_cut : (disk sink : Bool) (listing : Listing) (slot : ℕ) (first : Shown) (out : Outgoing) (f0 : ℕ) (v : Shown)
    (mid : Outgoing) (f1 count : ℕ) (u w : Shown) (new : Outgoing)
    → LoopRows disk sink (request_of listing) slot first out f0 v mid f1 count
    → Gives given_sink disk sink (request_of listing) slot v mid u new → Closes disk slot u w
    → EndsAll disk sink (request_of listing) sink_failed slot first out w new
loop_cut disk sink listing slot first out f0 v mid f1 count u w new l gives closes b steps begun =
    let r = l.rows b steps begun in
    let more = gives b r.rows r.steps r.listed in
    let (step, k) = closes b (r.rows ++ more.row ∷ []) [] 0 more.steps more.listed in
    ends_cut disk sink listing b slot w r.rows more.row (more.steps ++ step ∷ []) out mid new k r.sent more.out

pub loop_runs_out : (disk sink : Bool) (listing : Listing) (onward : Onward) (slot : ℕ) (first : Shown) (out : Outgoing) (f0 : ℕ)
    (v : Shown) (mid : Outgoing) (f1 count : ℕ) (w : Shown) (new : Outgoing)
    → LoopRows disk sink (request_of listing) slot first out f0 v mid f1 count → Closes disk slot v w → onward ≢ Quit
    → (IsTrue sink → SendsAs onward mid (reply_text Memory) new)
    → EndsAll disk sink (request_of listing) onward slot first out w new
unfolding breaks_for_memory
loop_runs_out disk sink listing onward slot first out f0 v mid f1 count w new l closes within sent b steps begun =
    let r = l.rows b steps begun in
    let k = breaks_for_memory disk listing b slot v r.rows r.steps r.listed in
    let (step, m) = closes b (r.rows ++ []) [] 0 r.steps k.listed in
    ends_broken disk sink listing onward b slot v w r.rows Memory out mid new k step m within r.sent sent
