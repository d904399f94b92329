-- The log of a store, and what it says of each key.
use Rattle.std.specs.Prelude.{◌≡◌, ℕ, ◌+◌, ◌<◌, List, [], ◌∷◌, ◌++◌, length, Bool, false, is_some, ◌||◌, ◌==◌, nat_lt, nat_le, cond, Option, None, Some, filter}
use Rattle.std.specs.Str.{bytes_eq}
use Rattle.bk_base.specs.declared.writes.Write.{Write}
use Rattle.bk_base.specs.declared.writes.Body.{Body}
use Rattle.bk_base.specs.declared.writes.Body.TheVariants.{Put, Gone}

-- the seqs of the writes rise, and are above n
abbrev pub RisesAbove : ℕ → List Write → Type 0
RisesAbove n [] = Unit {0}
RisesAbove n (w ∷ ws) = (n < w.seq.0) × RisesAbove w.seq.0 ws

-- A log is a list of writes whose seqs rise.
abbrev pub IsLog : List Write → Type 0
IsLog = RisesAbove 0

-- the seq of the last write, or n where there is none
abbrev pub seq_after : ℕ → List Write → ℕ
seq_after n [] = n
seq_after n (w ∷ ws) = seq_after w.seq.0 ws

-- the seq of a log's last write, 0 for the empty log, and the next one
abbrev pub last_seq : List Write → ℕ
last_seq = seq_after 0

abbrev pub next_seq : List Write → ℕ
next_seq log = last_seq log + 1

-- the writes of a log with a seq of at most the epoch
abbrev pub cut_at : ℕ → List Write → List Write
cut_at epoch log = filter (λ (w : Write). nat_le w.seq.0 epoch) log

abbrev pub or_else : Option Write → Option Write → Option Write
or_else (Some w) other = Some w
or_else None other = other

-- the last write of the key
abbrev pub winner : List Write → List ℕ → Option Write
winner [] key = None
winner (w ∷ ws) key = or_else (winner ws key) (cond (bytes_eq w.key key) (Some w) None)

-- The last write of the key stands at this place of the log.
pub record IsWinner (log : List Write) (key : List ℕ) (place : ℕ) : Type 0 where
  pub before : List Write
  pub write : Write
  pub later : List Write
  pub whole : log ≡ before ++ write ∷ later
  pub at : length before ≡ place
  pub is_last : winner log key ≡ Some write
  pub none_later : winner later key ≡ None

-- a later write has the key of the first
abbrev pub is_superseded : List Write → Bool
is_superseded [] = false
is_superseded (w ∷ ws) = is_some (winner ws w.key)

-- a write that puts, or none
abbrev pub put_in : Write → Body → Option Write
put_in w (Put value) = Some w
put_in w Gone = None

abbrev pub put_of : Option Write → Option Write
put_of None = None
put_of (Some w) = put_in w w.body

-- Two logs say the same of each key: they have the same map.
abbrev pub SameMap : List Write → List Write → Type 0
SameMap a b = (key : List ℕ) → put_of (winner a key) ≡ put_of (winner b key)

-- a put of this moment is live at `now`; a time to live of 0 has no end
abbrev pub is_fresh : ℕ → ℕ → ℕ → Bool
is_fresh moment now ttl = (ttl == 0) || nat_lt now (moment + ttl)

abbrev pub fresh_value : Write → Body → ℕ → ℕ → Option (List ℕ)
fresh_value w (Put value) now ttl = cond (is_fresh w.moment.0 now ttl) (Some value) None
fresh_value w Gone now ttl = None

abbrev pub live_in : Option Write → ℕ → ℕ → Option (List ℕ)
live_in None now ttl = None
live_in (Some w) now ttl = fresh_value w w.body now ttl

-- the live value of a key at `now`
abbrev pub live : List Write → List ℕ → ℕ → ℕ → Option (List ℕ)
live log key now ttl = live_in (winner log key) now ttl
