-- A history: which replies are legal, and what each call changes.
use Rattle.std.specs.Prelude.{◌≡◌, ℕ, ◌<◌, List, [], ◌∷◌, ◌++◌, Bool, true, false, ◌&&◌, ◌==◌, not, cond, Option, None}
use Rattle.std.specs.Prelude.{Some, is_some, is_none, map, filter, Contains}
use Rattle.std.specs.List.{list_any}
use Rattle.std.specs.Str.{bytes_eq}
use Rattle.bk_base.specs.declared.limits.TheConstants.{MOST_FOLDS}
use Rattle.bk_base.specs.declared.numbers.Moment.{Moment}
use Rattle.bk_base.specs.declared.numbers.Seq.{Seq}
use Rattle.bk_base.specs.declared.writes.Write.{Write}
use Rattle.bk_base.specs.declared.writes.Body.{Body}
use Rattle.bk_base.specs.declared.writes.Body.TheVariants.{Put as put_body, Gone as gone_body}
use Rattle.bk_base.specs.declared.calls.Call.{Call}
use Rattle.bk_base.specs.declared.calls.Call.TheVariants.{Get, Put, Delete, Reap, FoldOpen, FoldNext, FoldClose, Sync, Quiet}
use Rattle.bk_base.specs.declared.calls.Answer.{Answer}
use Rattle.bk_base.specs.declared.calls.Answer.TheVariants.{Nothing, Found, Numbered, Fold, Pair, End, Done}
use Rattle.bk_base.specs.declared.calls.Entry.{Entry}
use Rattle.bk_base.specs.declared.histories.OpenFold.{OpenFold}
use Rattle.bk_base.specs.declared.histories.Opening.{Opening}
use Rattle.bk_base.specs.declared.histories.Step.{Step}
use Rattle.bk_laws.specs.Log.{winner, put_of, live, last_seq, next_seq, cut_at}

-- What a list of steps leaves: the log, and the folds that are open.
pub record State : Type 0 where
  pub log : List Write
  pub folds : List OpenFold

abbrev pub is_slot : ℕ → OpenFold → Bool
is_slot slot f = f.slot == slot

abbrev pub is_open : ℕ → State → Bool
is_open slot s = list_any (is_slot slot) s.folds

-- the fold of this slot, which this caller opened
pub record IsOwn (caller slot : ℕ) (f : OpenFold) (s : State) : Type 0 where
  pub there : Contains s.folds f
  pub is_slot : f.slot ≡ slot
  pub is_caller : f.caller ≡ caller

abbrev pub is_listed : List ℕ → List (List ℕ) → Bool
is_listed key keys = list_any (bytes_eq key) keys

abbrev pub with_write : Seq → Moment → List ℕ → Body → State → State
with_write seq now key body s =
    record s { log = s.log ++ (record { seq = seq; moment = now; key = key; body = body }) ∷ [] }

abbrev pub with_listed : ℕ → List ℕ → OpenFold → OpenFold
with_listed slot key f = cond (is_slot slot f) (record f { listed = f.listed ++ key ∷ [] }) f

-- What a call with this reply changes. All other calls and replies change nothing.
abbrev pub changed : ℕ → Call → Answer → State → State
changed caller (Put key value now) (Numbered n) s = with_write n now key (put_body value) s
changed caller (Delete key now) (Numbered n) s = with_write n now key gone_body s
changed caller (Reap key now) (Numbered n) s = with_write n now key gone_body s
changed caller (FoldOpen now) (Fold epoch slot) s =
    record s { folds = s.folds ++ (record { listed = []; caller = caller; epoch = epoch; now = now; slot = slot }) ∷ [] }
changed caller (FoldNext slot) (Pair key value) s = record s { folds = map (with_listed slot key) s.folds }
changed caller (FoldClose slot) Done s = record s { folds = filter (λ f. not (is_slot slot f)) s.folds }
changed caller call reply s = s

-- the key's winner is a put that isn't live at `now`
abbrev pub is_expired : List Write → List ℕ → ℕ → ℕ → Bool
is_expired log key now ttl = is_some (put_of (winner log key)) && is_none (live log key now ttl)

-- the least slot below the limit that isn't open
pub record IsLeastFree (slot : ℕ) (s : State) : Type 0 where
  pub within : slot < MOST_FOLDS
  pub free : is_open slot s ≡ false
  pub least : (n : ℕ) → n < slot → is_open n s ≡ true

-- what a fold still sees of a key
abbrev pub seen_by : ℕ → State → OpenFold → List ℕ → Option (List ℕ)
seen_by ttl s f key = live (cut_at f.epoch.0 s.log) key f.now.0 ttl

-- The legal replies to a call of `caller` in this state.
abbrev pub IsReply : ℕ → State → ℕ → Call → Answer → Type 0
IsReply ttl s caller (Get key now) (Found value) = live s.log key now.0 ttl ≡ Some value
IsReply ttl s caller (Get key now) Nothing = live s.log key now.0 ttl ≡ None
IsReply ttl s caller (Put key value now) (Numbered n) = n.0 ≡ next_seq s.log
IsReply ttl s caller (Delete key now) (Numbered n) = (is_some (put_of (winner s.log key)) ≡ true) × (n.0 ≡ next_seq s.log)
IsReply ttl s caller (Delete key now) Nothing = is_some (put_of (winner s.log key)) ≡ false
IsReply ttl s caller (Reap key now) (Numbered n) = (is_expired s.log key now.0 ttl ≡ true) × (n.0 ≡ next_seq s.log)
IsReply ttl s caller (Reap key now) Nothing = is_expired s.log key now.0 ttl ≡ false
IsReply ttl s caller (FoldOpen now) (Fold epoch slot) = IsLeastFree slot s × (epoch.0 ≡ last_seq s.log)
IsReply ttl s caller (FoldNext slot) (Pair key value) =
    (f : OpenFold) × IsOwn caller slot f s × (is_listed key f.listed ≡ false) × (seen_by ttl s f key ≡ Some value)
IsReply ttl s caller (FoldNext slot) End =
    (f : OpenFold) × IsOwn caller slot f s × ((key : List ℕ) → is_listed key f.listed ≡ false → seen_by ttl s f key ≡ None)
IsReply ttl s caller (FoldClose slot) Done = (f : OpenFold) × IsOwn caller slot f s
IsReply ttl s caller Sync (Numbered n) = n.0 ≡ last_seq s.log
IsReply ttl s caller Quiet Done = Unit {0}
IsReply ttl s caller call reply = ⊥

-- one entry, and a list of entries one after the other
abbrev pub after : State → Entry → State
after s e = changed e.caller e.call e.reply s

abbrev pub state_of : State → List Entry → State
state_of s [] = s
state_of s (e ∷ es) = state_of (after s e) es

-- Each reply is legal after the entries before it.
abbrev pub IsLegal : ℕ → State → List Entry → Type 0
IsLegal ttl s [] = Unit {0}
IsLegal ttl s (e ∷ es) = IsReply ttl s e.caller e.call e.reply × IsLegal ttl (after s e) es

-- A history is a list of steps after an opening.
abbrev pub entries : List Step → List Entry
entries steps = map (λ (step : Step). step.entry) steps

abbrev pub opened : Opening → State
opened o = record { log = o.log; folds = o.folds }

abbrev pub state_after : Opening → List Step → State
state_after o steps = state_of (opened o) (entries steps)

abbrev pub log_of : Opening → List Step → List Write
log_of o steps = (state_after o steps).log

abbrev pub IsLegalHistory : Opening → List Step → Type 0
IsLegalHistory o steps = IsLegal o.settings.ttl (opened o) (entries steps)
