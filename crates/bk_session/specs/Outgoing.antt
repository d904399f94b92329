-- What goes to a session's client: the bytes that its sink took, and the replies that wait to be written.
use Rattle.std.specs.Prelude.{◌≡◌, ◌≢◌, ℕ, ◌+◌, List, ◌++◌, length, drop, Bool, true, IsTrue}
use Rattle.bk_base.specs.declared.damages.Damage.{Damage}
use Rattle.bk_session.specs.declared.outbox.Unread.{Unread}
use Rattle.bk_session.specs.declared.outbox.Unread.TheVariants.{Sink, Memory, Read, Damaged}
use Rattle.bk_store.specs.declared.errors.ReadError.{ReadError}
use Rattle.bk_store.specs.declared.errors.ReadError.TheVariants.{Read as read_failed, Damaged as is_damaged}
use Rattle.bk_store.specs.Loans.{Lent, check_of}

pub record Outgoing : Type 0 where
  pub written : List ℕ
  pub gathered : List ℕ

abbrev pub outgoing : List ℕ → List ℕ → Outgoing
outgoing written gathered = record { written = written; gathered = gathered }

-- Behind all that was gathered stands this text. A first part of both was written, and the rest is gathered.
pub record Sends (old : Outgoing) (text : List ℕ) (new : Outgoing) : Type 0 where
  pub out : List ℕ
  pub wrote : new.written ≡ old.written ++ out
  pub all : out ++ new.gathered ≡ old.gathered ++ text

-- Of what was gathered a first part was written, and the rest is gathered still.
pub record Moves (old new : Outgoing) : Type 0 where
  pub out : List ℕ
  pub wrote : new.written ≡ old.written ++ out
  pub all : out ++ new.gathered ≡ old.gathered

-- There was no memory for all of the text: what was written and gathered is a first part.
pub record Loses (old : Outgoing) (text : List ℕ) (new : Outgoing) : Type 0 where
  pub out : List ℕ
  pub lost : List ℕ
  pub wrote : new.written ≡ old.written ++ out
  pub start : (out ++ new.gathered) ++ lost ≡ old.gathered ++ text

-- The sink failed: what was written is a first part.
pub record Stops (old : Outgoing) (text : List ℕ) (new : Outgoing) : Type 0 where
  pub out : List ℕ
  pub lost : List ℕ
  pub wrote : new.written ≡ old.written ++ out
  pub start : out ++ lost ≡ old.gathered ++ text

-- the value that stands in a record that was lent
pub record IsValueOf (tells : Bool) (l : Lent) (value : List ℕ) : Type 0 where
  pub long : length value + l.value_at ≡ l.size
  pub bytes : IsTrue tells → value ≡ drop l.value_at l.left

abbrev pub unread_of : ReadError → Unread
unread_of read_failed = Read
unread_of (is_damaged d) = Damaged d

-- The record that was lent has another checksum than the one that was kept.
abbrev pub IsDamageOf : Bool → Lent → Damage → Type 0
IsDamageOf tells l d =
    (d.file ≡ l.file) × (d.at ≡ l.at) × (d.kept ≢ d.found) × (d.kept ≡ l.crc) × (IsTrue tells → d.found ≡ check_of l.left)

-- Why the value of a loan didn't come to the outbox, or not to the sink.
abbrev pub IsUnread : Bool → Lent → Unread → Type 0
IsUnread tells l Read = l.fallible ≡ true
IsUnread tells l (Damaged d) = IsDamageOf tells l d
IsUnread tells l Memory = Unit {0}
IsUnread tells l Sink = Unit {0}
