-- What an open fold lists.
use Rattle.std.specs.Prelude.{◌≡◌, ℕ, ◌≤◌, ◌&&◌, ◌==◌, Bool, true, false, not, cond, List, [], ◌∷◌, ◌++◌, take, drop, map, Option, None, Some}
use Rattle.std.specs.Option.{option_map}
use Rattle.std.specs.Str.{bytes_eq}
use Rattle.bk_base.specs.declared.numbers.FileId.{FileId}
use Rattle.bk_base.specs.declared.writes.Version.{Version}
use Rattle.bk_laws.specs.Log.{is_fresh}
use Rattle.bk_keydir.specs.declared.slots.Slot.{Slot}
use Rattle.bk_keydir.specs.Slots.{IsOpen, at_epoch, past}
use Rattle.bk_keydir.specs.Keydir.{Entry, Shown, key_at, placed, versions_at, versions_of}

-- a put that is live at the fold's moment
abbrev pub is_listed : ℕ → Slot → Option Version → Bool
is_listed ttl s None = false
is_listed ttl s (Some v) = not v.gone && is_fresh v.moment.0 s.now.0 ttl

-- of these keys, those that a fold lists, in order, each with the version that it sees
abbrev pub pair_if : Bool → List ℕ → Option Version → List (List ℕ × Version)
pair_if b key None = []
pair_if b key (Some v) = cond b ((key, v) ∷ []) []

abbrev pub listing : ℕ → Slot → List Entry → List (List ℕ × Version)
listing ttl s [] = []
listing ttl s (e ∷ es) =
    let seen = at_epoch s.epoch.0 e.1 in pair_if (is_listed ttl s seen) e.0 seen ++ listing ttl s es

-- what a fold still lists, and what lies before its cursor
abbrev pub still_lists : ℕ → Slot → List Entry → List (List ℕ × Version)
still_lists ttl s es = listing ttl s (drop s.cursor es)

abbrev pub has_listed : ℕ → Slot → List Entry → List (List ℕ × Version)
has_listed ttl s es = listing ttl s (take s.cursor es)

-- The next key that a fold lists stands at this position.
pub record IsNextPair (ttl : ℕ) (s : Slot) (es : List Entry) (position : ℕ) : Type 0 where
  pub key : List ℕ
  pub version : Version
  pub from : s.cursor ≤ position
  pub is_key : key_at position es ≡ Some key
  pub seen : at_epoch s.epoch.0 (versions_at position es) ≡ Some version
  pub listed : is_listed ttl s (Some version) ≡ true
  pub later : still_lists ttl s es ≡ (key, version) ∷ still_lists ttl (past position s) es
  pub earlier : has_listed ttl (past position s) es ≡ has_listed ttl s es ++ (key, version) ∷ []

-- None where the fold has listed all, else the next position
abbrev pub IsNext : ℕ → Slot → List Entry → Option ℕ → Type 0
IsNext ttl s es None = still_lists ttl s es ≡ []
IsNext ttl s es (Some position) = IsNextPair ttl s es position

-- To a fold nothing changed: what it sees of each key, what it still lists, and what it has listed.
pub record SameTo (s : Slot) (es fs : List Entry) : Type 0 where
  pub sees : (key : List ℕ) → at_epoch s.epoch.0 (versions_of key fs) ≡ at_epoch s.epoch.0 (versions_of key es)
  pub still : (ttl : ℕ) → still_lists ttl s fs ≡ still_lists ttl s es
  pub listed : (ttl : ℕ) → has_listed ttl s fs ≡ has_listed ttl s es

-- The open folds stay as they are, and nothing changes to any of them.
pub record KeepsFolds (c d : Shown) : Type 0 where
  pub slots : d.slots ≡ c.slots
  pub same : (s : Slot) → IsOpen c.slots s → SameTo s c.entries d.entries

-- the version of this key with this seq stands elsewhere
abbrev pub pair_moved : List ℕ → ℕ → FileId → ℕ → List ℕ × Version → List ℕ × Version
pair_moved key seq to at p = cond (bytes_eq key p.0 && (p.1.seq.0 == seq)) (p.0, placed to at p.1) p

abbrev pub seen_moved : List ℕ → ℕ → FileId → ℕ → List ℕ → Option Version → Option Version
seen_moved key seq to at other seen = option_map (λ v. (pair_moved key seq to at (other, v)).1) seen

-- To a fold nothing but the place of one version changed.
pub record MovedTo (key : List ℕ) (seq : ℕ) (to : FileId) (at : ℕ) (s : Slot) (es fs : List Entry) : Type 0 where
  pub sees : (other : List ℕ) → at_epoch s.epoch.0 (versions_of other fs)
      ≡ seen_moved key seq to at other (at_epoch s.epoch.0 (versions_of other es))
  pub still : (ttl : ℕ) → still_lists ttl s fs ≡ map (pair_moved key seq to at) (still_lists ttl s es)
  pub listed : (ttl : ℕ) → has_listed ttl s fs ≡ map (pair_moved key seq to at) (has_listed ttl s es)
