-- A listing that ends with END leaves out no key: the pairs that its calls gave are the live ones
-- of the log as its fold was opened, whatever other callers did meanwhile.
use Rattle.std.proofs.Common.{◌≡◌, ◌∙◌, ◌⊎◌, ℕ, zero, suc, ◌+◌, ◌<◌, ◌≤◌, List, [], ◌∷◌, ◌++◌, Bool}
use Rattle.std.proofs.Common.{true, false, cond, length, map, get_or, refl, sym, ap, subst, inl}
use Rattle.std.proofs.Common.{inr}
use Rattle.std.proofs.Common.{arith, eq-eqb, eqb-true, ne_eqb}
use Rattle.std.specs.Prelude.{◌==◌, ◌||◌, not, nat_le, filter, Contains}
use Rattle.std.specs.List.{list_any}
use Rattle.std.proofs.lemmas.Bool.{eqb-false, true≢false}
use Rattle.std.proofs.lemmas.Bool.Decides.{nat_tests}
use Rattle.std.proofs.lemmas.List.{append-nil, append_assoc, map-append, same_from_push}
use Rattle.std.proofs.lemmas.List.Elements.{filter-append}
use Rattle.bk_base.specs.declared.calls.Answer.{Answer}
use Rattle.bk_base.specs.declared.calls.Answer.TheVariants.{Done, End, Fold as fold_answer, Pair}
use Rattle.bk_base.specs.declared.calls.Answer.TheVariants.{Numbered}
use Rattle.bk_base.specs.declared.calls.Call.{Call}
use Rattle.bk_base.specs.declared.calls.Call.TheVariants.{Delete, FoldClose, FoldNext, FoldOpen}
use Rattle.bk_base.specs.declared.calls.Call.TheVariants.{Put}
use Rattle.bk_base.specs.declared.calls.Call.TheVariants.{Quiet, Reap}
use Rattle.bk_base.specs.declared.histories.OpenFold.{OpenFold}
use Rattle.bk_base.specs.declared.histories.Step.{Step}
use Rattle.bk_base.specs.declared.numbers.Moment.{Moment}
use Rattle.bk_base.specs.declared.numbers.Seq.{Seq}
use Rattle.bk_base.specs.declared.requests.Reply.{Reply}
use Rattle.bk_base.specs.declared.requests.Reply.TheVariants.{End as end_line}
use Rattle.bk_base.specs.declared.requests.Request.{Request}
use Rattle.bk_base.specs.declared.requests.Request.TheVariants.{Fold, Keys}
use Rattle.bk_base.specs.declared.writes.Write.{Write}
use Rattle.bk_laws.specs.History.{IsLegal, IsOwn, IsReply, State, changed, entries, is_listed}
use Rattle.bk_laws.specs.History.{is_slot}
use Rattle.bk_laws.specs.History.{seen_by, with_listed}
use Rattle.bk_laws.specs.Log.{IsLog, RisesAbove, cut_at, last_seq, live, seq_after}
use Rattle.bk_exchange.specs.Points.{AtOne, Event, Point, Said, calls_of, events, heard, next_point}
use Rattle.bk_exchange.specs.Points.{own, said}
use Rattle.bk_exchange.specs.Listings.{IsListing, Row, closing_call, end_call, listing_calls}
use Rattle.bk_exchange.specs.Listings.{row_calls, row_lines}
use Rattle.bk_exchange.specs.Answers.{Context, Lists, own_calls}
use Rattle.bk_exchange.specs.Refusals.{is_listing, may_drop, may_refuse}
use Rattle.bk_exchange.specs.Exchanges.{Exchange, IsExchange, ListsAll, Replies, moment_of}

-- ---- logs that rise

low : (n : ℕ) (ws : List Write) → RisesAbove n ws → n ≤ seq_after n ws
low n [] rises = omega arith
low n (w ∷ ws) rises =
    let later = low w.seq.0 ws rises.1 in let here = rises.0 in omega arith

kept_one : (m : ℕ) (w : Write) (ws : List Write) → w.seq.0 ≤ m
    → filter (λ (v : Write). nat_le v.seq.0 m) (w ∷ ws)
    ≡ w ∷ filter (λ (v : Write). nat_le v.seq.0 m) ws
kept_one m w ws small = grind (arith, nat_tests)

cut_above : (n m : ℕ) (ws : List Write) → RisesAbove n ws → seq_after n ws ≤ m → cut_at m ws ≡ ws
cut_above n m [] rises most = refl
cut_above n m (w ∷ ws) rises most =
    let here = low w.seq.0 ws rises.1 in
    kept_one m w ws (omega arith)
    ∙ ap (λ (l : List Write). w ∷ l) (cut_above w.seq.0 m ws rises.1 most)

-- a log cut at its own end is whole
cut_whole : (log : List Write) → IsLog log → cut_at (last_seq log) log ≡ log
cut_whole log rises = cut_above 0 (last_seq log) log rises (omega arith)

dropped_one : (m : ℕ) (w : Write) → m < w.seq.0
    → filter (λ (v : Write). nat_le v.seq.0 m) (w ∷ []) ≡ []
dropped_one m w large = grind (arith, nat_tests)

-- a later write changes no earlier cut
cut_more : (m : ℕ) (log : List Write) (w : Write) → m < w.seq.0
    → cut_at m (log ++ w ∷ []) ≡ cut_at m log
cut_more m log w large =
    filter-append (λ (v : Write). nat_le v.seq.0 m) log (w ∷ [])
    ∙ ap (λ (l : List Write). cut_at m log ++ l) (dropped_one m w large)
    ∙ append-nil (cut_at m log)

seq_after-push : (n : ℕ) (log : List Write) (w : Write) → seq_after n (log ++ w ∷ []) ≡ w.seq.0
seq_after-push n [] w = refl
seq_after-push n (v ∷ log) w = seq_after-push v.seq.0 log w

rises-push : (n : ℕ) (log : List Write) (w : Write) → RisesAbove n log → seq_after n log < w.seq.0
    → RisesAbove n (log ++ w ∷ [])
rises-push n [] w rises above = (above, tt)
rises-push n (v ∷ log) w rises above = (rises.0, rises-push v.seq.0 log w rises.1 above)

log_rises : (ttl : ℕ) (s : State) (caller : ℕ) (call : Call) (answer : Answer)
    → IsReply ttl s caller call answer → IsLog s.log → IsLog (changed caller call answer s).log
log_rises ttl s caller (Put key value now) (Numbered n) legal rises =
    rises-push 0 s.log _ rises (omega (arith, legal))
log_rises ttl s caller (Delete key now) (Numbered n) legal rises =
    rises-push 0 s.log _ rises (omega (arith, legal.1))
log_rises ttl s caller (Reap key now) (Numbered n) legal rises =
    rises-push 0 s.log _ rises (omega (arith, legal.1))
log_rises ttl s caller (FoldOpen now) (fold_answer epoch slot) legal rises = rises
log_rises ttl s caller (FoldNext slot) (Pair key value) legal rises = rises
log_rises ttl s caller (FoldClose slot) Done legal rises = rises
log_rises ttl s caller call answer legal rises = rises

-- ---- the folds of other slots

abbrev HasNone : ℕ → List OpenFold → Type 0
HasNone slot folds = list_any (is_slot slot) folds ≡ false

first_not : (a b : Bool) → a || b ≡ false → a ≡ false
first_not true b is = absurd (true≢false is)
first_not false b is = refl

second_not : (a b : Bool) → a || b ≡ false → b ≡ false
second_not true b is = absurd (true≢false is)
second_not false b is = is

neither : (a b : Bool) → a ≡ false → b ≡ false → a || b ≡ false
neither true b is so = absurd (true≢false is)
neither false b is so = so

head_not : (slot : ℕ) (f : OpenFold) (fs : List OpenFold) → HasNone slot (f ∷ fs)
    → is_slot slot f ≡ false
head_not slot f fs none = first_not (is_slot slot f) (list_any (is_slot slot) fs) none

tail_not : (slot : ℕ) (f : OpenFold) (fs : List OpenFold) → HasNone slot (f ∷ fs) → HasNone slot fs
tail_not slot f fs none = second_not (is_slot slot f) (list_any (is_slot slot) fs) none

-- a fold of the slot isn't among them
not_there : (slot : ℕ) (fs : List OpenFold) (f : OpenFold) (k : ℕ) → HasNone slot fs → k < length fs
    → get_or fs k f ≡ f → f.slot ≡ slot → ⊥
not_there slot [] f k none inside there is = omega arith
not_there slot (g ∷ fs) f zero none inside there is =
    true≢false (sym (eq-eqb g.slot slot (ap (λ (x : OpenFold). x.slot) there ∙ is))
    ∙ head_not slot g fs none)
not_there slot (g ∷ fs) f (suc k) none inside there is =
    not_there slot fs f k (tail_not slot g fs none) (omega arith) there is

-- the one fold of the slot
the_fold : (slot : ℕ) (front back : List OpenFold) (mine f : OpenFold) → HasNone slot front
    → HasNone slot back → Contains (front ++ mine ∷ back) f → f.slot ≡ slot → f ≡ mine
the_fold slot [] back mine f before behind (zero, inside, there) is = sym there
the_fold slot [] back mine f before behind (suc k, inside, there) is =
    absurd (not_there slot back f k behind (omega arith) there is)
the_fold slot (g ∷ front) back mine f before behind (zero, inside, there) is =
    absurd (not_there slot (g ∷ front) f zero before (omega arith) there is)
the_fold slot (g ∷ front) back mine f before behind (suc k, inside, there) is =
    the_fold slot front back mine f (tail_not slot g front before) behind (k, omega arith, there) is

-- it is open
is_there : (slot : ℕ) (front back : List OpenFold) (mine : OpenFold) → mine.slot ≡ slot
    → list_any (is_slot slot) (front ++ mine ∷ back) ≡ true
is_there slot [] back mine is =
    ap (λ (b : Bool). b || list_any (is_slot slot) back) (eq-eqb mine.slot slot is)
is_there slot (f ∷ front) back mine is =
    ap (λ (b : Bool). is_slot slot f || b) (is_there slot front back mine is)
    ∙ or_true (is_slot slot f)
  where
    or_true : (b : Bool) → b || true ≡ true
    or_true true = refl
    or_true false = refl

-- what a pair of the slot changes, and a pair of another slot
none_listed : (slot : ℕ) (key : List ℕ) (fs : List OpenFold) → HasNone slot fs
    → map (with_listed slot key) fs ≡ fs
none_listed slot key [] none = refl
none_listed slot key (f ∷ fs) none =
    ap (λ (b : Bool). cond b (record f { listed = f.listed ++ key ∷ [] }) f
    ∷ map (with_listed slot key) fs) (head_not slot f fs none)
    ∙ ap (λ (l : List OpenFold). f ∷ l) (none_listed slot key fs (tail_not slot f fs none))

slot_kept : (other : ℕ) (key : List ℕ) (f : OpenFold) → (with_listed other key f).slot ≡ f.slot
slot_kept other key f = go (is_slot other f)
  where
    go : (b : Bool) → (cond b (record f { listed = f.listed ++ key ∷ [] }) f).slot ≡ f.slot
    go true = refl
    go false = refl

listed_keeps : (slot other : ℕ) (key : List ℕ) (fs : List OpenFold) → HasNone slot fs
    → HasNone slot (map (with_listed other key) fs)
listed_keeps slot other key [] none = refl
listed_keeps slot other key (f ∷ fs) none =
    neither (is_slot slot (with_listed other key f))
    (list_any (is_slot slot) (map (with_listed other key) fs))
    (ap (λ (n : ℕ). n == slot) (slot_kept other key f) ∙ head_not slot f fs none)
    (listed_keeps slot other key fs (tail_not slot f fs none))

filter_keeps : (slot : ℕ) (p : OpenFold → Bool) (fs : List OpenFold) → HasNone slot fs
    → HasNone slot (filter p fs)
filter_keeps slot p [] none = refl
filter_keeps slot p (f ∷ fs) none =
    go (p f) (filter_keeps slot p fs (tail_not slot f fs none))
  where
    go : (b : Bool) → HasNone slot (filter p fs)
        → HasNone slot (cond b (f ∷ filter p fs) (filter p fs))
    go true later = neither (is_slot slot f) (list_any (is_slot slot) (filter p fs))
        (head_not slot f fs none) later
    go false later = later

pushed_keeps : (slot : ℕ) (fs : List OpenFold) (f : OpenFold) → HasNone slot fs
    → is_slot slot f ≡ false
    → HasNone slot (fs ++ f ∷ [])
pushed_keeps slot [] f none apart = neither (is_slot slot f) false apart refl
pushed_keeps slot (g ∷ fs) f none apart =
    neither (is_slot slot g) (list_any (is_slot slot) (fs ++ f ∷ [])) (head_not slot g fs none)
    (pushed_keeps slot fs f (tail_not slot g fs none) apart)

-- ---- a fold among others

-- The fold stands alone in its slot, and what the log was as it was opened can still be cut out.
pub record IsOver (slot : ℕ) (mine : OpenFold) (log : List Write) (s : State) : Type 0 where
  pub front : List OpenFold
  pub back : List OpenFold
  pub folds : s.folds ≡ front ++ mine ∷ back
  pub none_before : HasNone slot front
  pub none_behind : HasNone slot back
  pub is_slot_of : mine.slot ≡ slot
  pub cut : cut_at mine.epoch.0 s.log ≡ log
  pub past : mine.epoch.0 ≤ last_seq s.log

-- the fold that a legal call of its slot speaks of
mine_of : (slot caller : ℕ) (mine f : OpenFold) (log : List Write) (s : State)
    → IsOver slot mine log s
    → IsOwn caller slot f s → f ≡ mine
mine_of slot caller mine f log s over is_own =
    the_fold slot over.front over.back mine f over.none_before over.none_behind
    (subst (λ (l : List OpenFold). Contains l f) over.folds is_own.there) is_own.is_slot

-- another caller's fold is in another slot
apart_of : (slot who caller other : ℕ) (mine f : OpenFold) (log : List Write) (s : State)
    → IsOver slot mine log s → mine.caller ≡ who → (caller == who) ≡ false → IsOwn caller other f s
    → other ≡ slot → ⊥
apart_of slot who caller other mine f log s over is_mine apart is_own same =
    let is = mine_of slot caller mine f log s over
    (subst (λ (n : ℕ). IsOwn caller n f s) same is_own) in
    eqb-false caller who apart
    (sym is_own.is_caller ∙ ap (λ (g : OpenFold). g.caller) is ∙ is_mine)

-- a write, with the next seq
over_write : (slot : ℕ) (mine : OpenFold) (log : List Write) (s : State) (w : Write)
    → IsOver slot mine log s → w.seq.0 ≡ last_seq s.log + 1
    → IsOver slot mine log (record s { log = s.log ++ w ∷ [] })
over_write slot mine log s w over is =
    let past = over.past in
    let last = seq_after-push 0 s.log w in
    record {
      front = over.front;
      back = over.back;
      folds = over.folds;
      none_before = over.none_before;
      none_behind = over.none_behind;
      is_slot_of = over.is_slot_of;
      cut = cut_more mine.epoch.0 s.log w (omega arith) ∙ over.cut;
      past = omega arith;
    }

abbrev opened_fold : ℕ → Moment → Seq → ℕ → OpenFold
opened_fold who now epoch slot =
    record { listed = []; caller = who; epoch = epoch; now = now; slot = slot }

-- whatever another caller does
others_keep : (ttl slot who : ℕ) (mine : OpenFold) (log : List Write) (s : State) (caller : ℕ)
    (call : Call)
    (answer : Answer) → IsOver slot mine log s → mine.caller ≡ who → (caller == who) ≡ false
    → IsReply ttl s caller call answer → IsOver slot mine log (changed caller call answer s)
others_keep ttl slot who mine log s caller (Put key value now)
    (Numbered n) over is_mine apart legal =
    over_write slot mine log s _ over legal
others_keep ttl slot who mine log s caller (Delete key now) (Numbered n) over is_mine apart legal =
    over_write slot mine log s _ over legal.1
others_keep ttl slot who mine log s caller (Reap key now) (Numbered n) over is_mine apart legal =
    over_write slot mine log s _ over legal.1
others_keep ttl slot who mine log s caller (FoldOpen now)
    (fold_answer epoch other) over is_mine apart legal =
    let free = legal.0.free in
    let differs : (other == slot) ≡ false =
    ne_eqb other slot (λ same. true≢false (sym
    (is_there slot over.front over.back mine over.is_slot_of)
    ∙ ap (list_any (is_slot slot)) (sym over.folds)
    ∙ ap (λ (n : ℕ). list_any (is_slot n) s.folds) (sym same) ∙ free)) in
    let f = opened_fold caller now epoch other in
    record {
      front = over.front;
      back = over.back ++ f ∷ [];
      folds = ap (λ (l : List OpenFold). l ++ f ∷ []) over.folds
          ∙ append_assoc over.front (mine ∷ over.back) (f ∷ []);
      none_before = over.none_before;
      none_behind = pushed_keeps slot over.back f over.none_behind differs;
      is_slot_of = over.is_slot_of;
      cut = over.cut;
      past = over.past;
    }
others_keep ttl slot who mine log s caller (FoldNext other)
    (Pair key value) over is_mine apart legal =
    let differs : (mine.slot == other) ≡ false =
    ne_eqb mine.slot other
    (λ same. apart_of slot who caller other mine legal.0 log s over is_mine apart legal.1
    (sym same ∙ over.is_slot_of)) in
    record {
      front = map (with_listed other key) over.front;
      back = map (with_listed other key) over.back;
      folds = ap (map (with_listed other key)) over.folds
          ∙ map-append (with_listed other key) over.front (mine ∷ over.back)
          ∙ ap (λ (b : Bool). map (with_listed other key) over.front
          ++ cond b (record mine { listed = mine.listed ++ key ∷ [] }) mine ∷ map
          (with_listed other key) over.back) differs;
      none_before = listed_keeps slot other key over.front over.none_before;
      none_behind = listed_keeps slot other key over.back over.none_behind;
      is_slot_of = over.is_slot_of;
      cut = over.cut;
      past = over.past;
    }
others_keep ttl slot who mine log s caller (FoldClose other) Done over is_mine apart legal =
    let differs : (mine.slot == other) ≡ false =
    ne_eqb mine.slot other
    (λ same. apart_of slot who caller other mine legal.0 log s over is_mine apart legal.1
    (sym same ∙ over.is_slot_of)) in
    let stays = λ (f : OpenFold). not (is_slot other f) in
    record {
      front = filter stays over.front;
      back = filter stays over.back;
      folds = ap (filter stays) over.folds ∙ filter-append stays over.front (mine ∷ over.back)
          ∙ ap (λ (b : Bool). filter stays over.front
          ++ cond (not b) (mine ∷ filter stays over.back) (filter stays over.back)) differs;
      none_before = filter_keeps slot stays over.front over.none_before;
      none_behind = filter_keeps slot stays over.back over.none_behind;
      is_slot_of = over.is_slot_of;
      cut = over.cut;
      past = over.past;
    }
others_keep ttl slot who mine log s caller call answer over is_mine apart legal = over

-- ---- the caller's own calls, one after the other

quiet_changes : (who : ℕ) (call : Call) (answer : Answer) (s : State) → call ≡ Quiet
    → changed who call answer s ≡ s
quiet_changes who call answer s is = ap (λ (k : Call). changed who k answer s) is

pair_changes : (who slot : ℕ) (key value : List ℕ) (call : Call) (answer : Answer) (s : State)
    → call ≡ FoldNext slot → answer ≡ Pair key value
    → changed who call answer s ≡ record s { folds = map (with_listed slot key) s.folds }
pair_changes who slot key value call answer s is_call is_answer =
    ap (λ (k : Call). changed who k answer s) is_call
    ∙ ap (λ (a : Answer). changed who (FoldNext slot) a s) is_answer

abbrev with_key : OpenFold → List ℕ → OpenFold
with_key mine key = record mine { listed = mine.listed ++ key ∷ [] }

-- its own next pair
over_more : (slot who : ℕ) (key value : List ℕ) (mine : OpenFold) (log : List Write) (call : Call)
    (answer : Answer)
    (s : State) → IsOver slot mine log s → call ≡ FoldNext slot → answer ≡ Pair key value
    → IsOver slot (with_key mine key) log (changed who call answer s)
over_more slot who key value mine log call answer s over is_call is_answer =
    subst (IsOver slot (with_key mine key) log)
    (sym (pair_changes who slot key value call answer s is_call is_answer)) (record {
      front = over.front;
      back = over.back;
      folds = ap (map (with_listed slot key)) over.folds
          ∙ map-append (with_listed slot key) over.front (mine ∷ over.back)
          ∙ ap (λ (l : List OpenFold). l ++ map (with_listed slot key) (mine ∷ over.back))
          (none_listed slot key over.front over.none_before)
          ∙ ap (λ (l : List OpenFold). over.front ++ with_listed slot key mine ∷ l)
          (none_listed slot key over.back over.none_behind)
          ∙ ap (λ (b : Bool). over.front ++ cond b (with_key mine key) mine ∷ over.back)
          (eq-eqb mine.slot slot over.is_slot_of);
      none_before = over.none_before;
      none_behind = over.none_behind;
      is_slot_of = over.is_slot_of;
      cut = over.cut;
      past = over.past;
    })

abbrev first_said : List Said → Said
first_said [] = said Quiet Done
first_said (s ∷ later) = s

abbrev behind_first : List Said → List Said
behind_first [] = []
behind_first (s ∷ later) = later

abbrev ending : ℕ → List Said
ending slot = end_call slot ∷ closing_call slot ∷ []

-- the first call, where it is no quiet one: the fold's end or its next pair
abbrev Comes : ℕ → Call → Answer → List Said → List Row → Type 0
Comes slot call answer later [] = (call ≡ FoldNext slot) × (answer ≡ End)
Comes slot call answer later (row ∷ rows) =
    (call ≡ FoldNext slot) × (answer ≡ Pair row.key row.value)
    × (later ≡ row_calls slot rows ++ ending slot)

comes_of : (slot : ℕ) (call : Call) (answer : Answer) (later : List Said) (rows : List Row)
    → said call answer ∷ later ≡ row_calls slot rows ++ ending slot
    → Comes slot call answer later rows
comes_of slot call answer later [] is = (
  ap (λ (l : List Said). (first_said l).call) is,
  ap (λ (l : List Said).
      (first_said l).answer) is,
)
comes_of slot call answer later (row ∷ rows) is = (
  ap (λ (l : List Said). (first_said l).call) is,
  ap (λ (l : List Said).
      (first_said l).answer) is,
  ap behind_first is,
)

comes : (slot : ℕ) (call : Call) (answer : Answer) (later : List Said) (rows : List Row)
    → heard call answer ++ later ≡ row_calls slot rows ++ ending slot
    → ((call ≡ Quiet) × (later ≡ row_calls slot rows ++ ending slot)) ⊎ Comes slot call answer later rows
comes slot Quiet answer later rows is = inl (refl, is)
comes slot call answer later rows is = inr (comes_of slot call answer later rows is)

-- the reply, by what the call and the answer were
at_call : (ttl : ℕ) (s : State) (who : ℕ) (call other : Call) (answer reply : Answer) → call ≡ other
    → answer ≡ reply → IsReply ttl s who call answer → IsReply ttl s who other reply
at_call ttl s who call other answer reply is_call is_answer legal =
    subst (λ (k : Call). IsReply ttl s who k reply) is_call
    (subst (λ (a : Answer). IsReply ttl s who call a) is_answer legal)

seen_is : (ttl slot : ℕ) (mine f : OpenFold) (log : List Write) (s : State) (key : List ℕ)
    → IsOver slot mine log s
    → f ≡ mine → seen_by ttl s f key ≡ live log key mine.now.0 ttl
seen_is ttl slot mine f log s key over is =
    ap (λ (g : OpenFold). seen_by ttl s g key) is
    ∙ ap (λ (l : List Write). live l key mine.now.0 ttl) over.cut

ended : (ttl slot who : ℕ) (mine : OpenFold) (log : List Write) (s : State) → IsOver slot mine log s
    → IsReply ttl s who (FoldNext slot) End → IsListing ttl mine.now.0 log mine.listed []
ended ttl slot who mine log s over (f, is_own, none) =
    let is = mine_of slot who mine f log s over is_own in
    λ key apart.
    sym (seen_is ttl slot mine f log s key over is)
    ∙ none key (ap (λ (g : OpenFold). is_listed key g.listed) is ∙ apart)

-- the pairs up to the end are a listing
listed_on : (ttl slot who : ℕ) (mine : OpenFold) (log : List Write) (p : Point)
    (steps : List Step) (rows : List Row)
    → IsOver slot mine log p.state → mine.caller ≡ who → IsLegal ttl p.state (entries steps)
    → calls_of (own who (events p steps)) ≡ row_calls slot rows ++ ending slot
    → IsListing ttl mine.now.0 log mine.listed rows
listed_on ttl slot who mine log p [] [] over is_mine legal is = absurd (cc is)
listed_on ttl slot who mine log p [] (row ∷ rows) over is_mine legal is = absurd (cc is)
listed_on ttl slot who mine log p (step ∷ steps) rows over is_mine legal is =
    split (step.entry.caller == who) refl is
    (λ more rest over_then still_mine is_then.
    listed_on ttl slot who more log
    (next_point p step) steps rest over_then still_mine legal.1 is_then)
  where
    q : Point
    q = next_point p step

    e : Event
    e = record { before = p; step = step }

    later : List Event
    later = own who (events q steps)

    caller : ℕ
    caller = step.entry.caller

    call : Call
    call = step.entry.call

    answer : Answer
    answer = step.entry.reply

    GoesOn : Type 0
    GoesOn = (more : OpenFold) (rest : List Row) → IsOver slot more log q.state → more.caller ≡ who
        → calls_of later ≡ row_calls slot rest ++ ending slot
        → IsListing ttl more.now.0 log more.listed rest

    go : (rs : List Row)
        → ((call ≡ Quiet) × (calls_of later ≡ row_calls slot rs ++ ending slot)) ⊎ Comes slot call answer (calls_of later) rs
        → GoesOn → IsListing ttl mine.now.0 log mine.listed rs
    go rs (inl quiet) goes_on =
        goes_on mine rs
        (subst (IsOver slot mine log) (sym
        (quiet_changes caller call answer p.state quiet.0)) over) is_mine quiet.1
    go [] (inr ends) goes_on =
        ended ttl slot caller mine log p.state over
        (at_call ttl p.state caller call (FoldNext slot) answer End ends.0 ends.1 legal.0)
    go (row ∷ rs) (inr pair) goes_on =
        let reply = at_call ttl p.state caller call (FoldNext slot) answer (Pair row.key row.value)
        pair.0 pair.1 legal.0 in
        let same = mine_of slot caller mine reply.0 log p.state over reply.1 in (
          ap (λ (g : OpenFold). is_listed row.key g.listed) (sym same) ∙ reply.2,
          sym (seen_is ttl slot mine reply.0 log p.state row.key over same) ∙ reply.3,
          goes_on (with_key mine row.key) rs
              (over_more slot caller row.key row.value mine log call answer p.state over pair.0 pair.1) is_mine pair.2,
        )

    split : (b : Bool) → (caller == who) ≡ b
        → calls_of (cond b (e ∷ later) later) ≡ row_calls slot rows ++ ending slot
        → GoesOn → IsListing ttl mine.now.0 log mine.listed rows
    split true test calls goes_on = go rows (comes slot call answer
        (calls_of later) rows calls) goes_on
    split false test calls goes_on =
        goes_on mine rows (others_keep ttl slot who mine log p.state caller call answer over is_mine test legal.0)
        is_mine calls

-- ---- from its opening

open_changes : (who slot : ℕ) (now : Moment) (epoch : Seq) (call : Call) (answer : Answer)
    (s : State)
    → call ≡ FoldOpen now → answer ≡ fold_answer epoch slot
    → changed who call answer s ≡ record s { folds = s.folds ++ opened_fold who now epoch slot ∷ [] }
open_changes who slot now epoch call answer s is_call is_answer =
    ap (λ (k : Call). changed who k answer s) is_call
    ∙ ap (λ (a : Answer). changed who (FoldOpen now) a s) is_answer

-- the first call, where it is no quiet one, opens the fold
opens : (now : Moment) (epoch : Seq) (slot : ℕ) (rows : List Row) (behind : List Said)
    (call : Call) (answer : Answer)
    (later : List Said) → heard call answer ++ later ≡ listing_calls now epoch slot rows behind
    → ((call ≡ Quiet) × (later ≡ listing_calls now epoch slot rows behind))
    ⊎ ((call ≡ FoldOpen now) × (answer ≡ fold_answer epoch slot)
    × (later ≡ row_calls slot rows ++ behind))
opens now epoch slot rows behind Quiet answer later is = inl (refl, is)
opens now epoch slot rows behind call answer later is =
    inr (
      ap (λ (l : List Said). (first_said l).call) is,
      ap (λ (l : List Said).
          (first_said l).answer) is,
      ap behind_first is,
    )

-- at the event that opens the fold, the rows list the log before it
abbrev ListsAt : ℕ → Moment → List Row → Event → Type 0
ListsAt ttl now rows e = (e.step.entry.call ≡ FoldOpen now)
    × IsListing ttl now.0 e.before.state.log [] rows

pub listing_whole : (ttl who : ℕ) (now : Moment) (epoch : Seq) (slot : ℕ) (p : Point)
    (steps : List Step)
    (rows : List Row) → IsLog p.state.log → IsLegal ttl p.state (entries steps)
    → calls_of (own who (events p steps)) ≡ listing_calls now epoch slot rows (ending slot)
    → AtOne (ListsAt ttl now rows) (own who (events p steps))
listing_whole ttl who now epoch slot p [] rows rises legal is = absurd (cc is)
listing_whole ttl who now epoch slot p (step ∷ steps) rows rises legal is =
    split (step.entry.caller == who) refl is
    (λ is_then. listing_whole ttl who now epoch slot (next_point p step) steps rows
    (log_rises ttl p.state step.entry.caller step.entry.call step.entry.reply legal.0 rises) legal.1 is_then)
  where
    q : Point
    q = next_point p step

    e : Event
    e = record { before = p; step = step }

    later : List Event
    later = own who (events q steps)

    caller : ℕ
    caller = step.entry.caller

    call : Call
    call = step.entry.call

    answer : Answer
    answer = step.entry.reply

    log : List Write
    log = p.state.log

    GoesOn : Type 0
    GoesOn = calls_of later ≡ listing_calls now epoch slot rows (ending slot)
        → AtOne (ListsAt ttl now rows) later

    go : (caller ≡ who)
        → ((call ≡ Quiet) × (calls_of later ≡ listing_calls now epoch slot rows (ending slot)))
        ⊎ ((call ≡ FoldOpen now) × (answer ≡ fold_answer epoch slot)
        × (calls_of later ≡ row_calls slot rows ++ ending slot))
        → GoesOn → AtOne (ListsAt ttl now rows) (e ∷ later)
    go is_mine (inl quiet) goes_on = inr (goes_on quiet.1)
    go is_mine (inr opened) goes_on =
        let reply = at_call ttl p.state caller call (FoldOpen now) answer (fold_answer epoch slot)
        opened.0 opened.1 legal.0 in
        let mine = opened_fold caller now epoch slot in
        let last = reply.1 in
        let over : IsOver slot mine log q.state =
        subst (IsOver slot mine log) (sym
        (open_changes caller slot now epoch call answer p.state opened.0 opened.1))
        (record {
          front = p.state.folds;
          back = [];
          folds = refl;
          none_before = reply.0.free;
          none_behind = refl;
          is_slot_of = refl;
          cut = ap (λ (n : ℕ). cut_at n log) reply.1 ∙ cut_whole log rises;
          past = omega arith;
        }) in
        inl (opened.0, listed_on ttl slot who mine log q steps rows over is_mine legal.1 opened.2)

    split : (b : Bool) → (caller == who) ≡ b
        → calls_of (cond b (e ∷ later) later) ≡ listing_calls now epoch slot rows (ending slot)
        → GoesOn → AtOne (ListsAt ttl now rows) (cond b (e ∷ later) later)
    split true test calls goes_on =
        go (eqb-true caller who test) (opens now epoch slot rows (ending slot) call answer
        (calls_of later) calls) goes_on
    split false test calls goes_on = goes_on calls

-- ---- an exchange

ends_as : (lines rows : List Reply) (n : ℕ) (line : Reply) (replies : List Reply)
    → replies ≡ lines ++ end_line n ∷ []
    → replies ≡ rows ++ line ∷ [] → line ≡ end_line n
ends_as lines rows n line replies is other = sym (same_from_push lines rows (end_line n) line
    (sym is ∙ other)).1

-- the exchange's calls are a whole listing
listing_of : (c : Context) (request : Request) (now : Moment) (es : List Event)
    (replies lines : List Reply) (n : ℕ)
    → Replies c request now es replies → is_listing request ≡ true
    → replies ≡ lines ++ end_line n ∷ []
    → Lists request now (own_calls c es) replies
listing_of c Fold now es replies lines n (inl a) lists is = a
listing_of c Keys now es replies lines n (inl a) lists is = a
listing_of c request now es replies lines n (inr (inl r)) lists is =
    let line = ends_as lines [] n r.line replies is r.lines in
    absurd (true≢false (sym (ap (may_refuse request) (sym line) ∙ r.may)))
listing_of c Fold now es replies lines n (inr (inr f)) lists is =
    let line = ends_as lines (row_lines Fold f.rows) n f.line replies is f.lines in
    absurd (true≢false (sym (ap (λ (l : Reply). may_drop Fold l (length f.dropped)) (sym line)
    ∙ f.may)))
listing_of c Keys now es replies lines n (inr (inr f)) lists is =
    let line = ends_as lines (row_lines Keys f.rows) n f.line replies is f.lines in
    absurd (true≢false (sym (ap (λ (l : Reply). may_drop Keys l (length f.dropped)) (sym line)
    ∙ f.may)))
listing_of c request now es replies lines n replied lists is = absurd (true≢false (sym lists))

pub end_is_whole : (c : Context) (p : Point) (x : Exchange) (lines : List Reply) (n : ℕ)
    → IsExchange c p x
    → IsLog p.state.log → IsLegal c.opening.settings.ttl p.state (entries x.steps)
    → is_listing x.request ≡ true
    → x.replies ≡ lines ++ end_line n ∷ [] → ListsAll c p x
end_is_whole c p x lines n is rises legal lists ends =
    let now = moment_of x.now in
    let a = listing_of c x.request now (events p x.steps) x.replies lines n is.replied lists ends in
    record {
      rows = a.rows;
      lines = a.lines;
      whole = listing_whole c.opening.settings.ttl c.who now a.epoch a.slot p x.steps a.rows rises legal a.called;
    }
