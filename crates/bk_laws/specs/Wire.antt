-- The wire grammar: the texts of requests and of replies, and what stands at the front of a stream.
use Rattle.std.specs.Prelude.{◌≡◌, ℕ, zero, suc, ◌/◌, ◌%◌, ◌^◌, ◌<◌, List, [], ◌∷◌, ◌++◌, length, false, codes}
use Rattle.std.specs.Fmt.{decimal, digit_glyph}
use Rattle.bk_base.specs.Bounds.{AreBytes, IsKey, IsValue}
use Rattle.bk_base.specs.declared.requests.Request.{Request}
use Rattle.bk_base.specs.declared.requests.Request.TheVariants.{Get, Put, Delete, Fold, Keys, Sync, Stat, Quit}
use Rattle.bk_base.specs.declared.requests.Full.{Full}
use Rattle.bk_base.specs.declared.requests.Full.TheVariants.{Seq, Files, Folds, Turns}
use Rattle.bk_base.specs.declared.requests.Reply.{Reply}
use Rattle.bk_base.specs.declared.requests.Reply.TheVariants.{Value, Absent, Numbered, Pair, Key, End, Synced, Merged, Held}
use Rattle.bk_base.specs.declared.requests.Reply.TheVariants.{Job, Stat as stat_reply, Bye, Memory, Disk, Read, Damaged, Cut}
use Rattle.bk_base.specs.declared.requests.Reply.TheVariants.{Full as full_reply, Syntax}

-- these bytes and a line feed; the bytes of a key or a value may hold line feeds of their own
abbrev pub line : List ℕ → List ℕ
line bytes = bytes ++ 10 ∷ []

-- a word and a number
abbrev pub numbered : List ℕ → ℕ → List ℕ
numbered word n = word ++ decimal n

-- and one more number behind a space
abbrev pub and_number : List ℕ → ℕ → List ℕ
and_number front n = front ++ 32 ∷ decimal n

-- the header line names how many bytes follow it
unfoldable pub request_text : Request → List ℕ
request_text (Get key) = line (numbered (codes "GET ") (length key)) ++ line key
request_text (Put key value) =
    line (and_number (numbered (codes "PUT ") (length key)) (length value)) ++ line (key ++ value)
request_text (Delete key) = line (numbered (codes "DEL ") (length key)) ++ line key
request_text Fold = line (codes "FOLD")
request_text Keys = line (codes "KEYS")
request_text Sync = line (codes "SYNC")
request_text Stat = line (codes "STAT")
request_text Quit = line (codes "QUIT")

abbrev pub full_word : Full → List ℕ
full_word Seq = codes "seq"
full_word Files = codes "files"
full_word Folds = codes "folds"
full_word Turns = codes "turns"

-- the last k digits of a number in lower-case hexadecimal
unfoldable pub hex_of : ℕ → ℕ → List ℕ
hex_of zero n = []
hex_of (suc k) n = hex_of k (n / 16) ++ digit_glyph false (n % 16) ∷ []

abbrev pub and_hex : List ℕ → ℕ → List ℕ
and_hex front n = front ++ 32 ∷ hex_of 8 n

unfoldable pub reply_text : Reply → List ℕ
reply_text (Value value) = line (numbered (codes "VALUE ") (length value)) ++ line value
reply_text Absent = line (codes "NONE")
reply_text (Numbered seq) = line (numbered (codes "OK ") seq.0)
reply_text (Pair key value) =
    line (and_number (numbered (codes "PAIR ") (length key)) (length value)) ++ line (key ++ value)
reply_text (Key key) = line (numbered (codes "KEY ") (length key)) ++ line key
reply_text (End n) = line (numbered (codes "END ") n)
reply_text (Synced seq) = line (numbered (codes "SYNCED ") seq.0)
reply_text (Merged inputs outputs) = line (and_number (numbered (codes "MERGED ") inputs) outputs)
reply_text (Held n) = line (numbered (codes "HELD ") n)
reply_text (Job id) = line (numbered (codes "JOB ") id.0)
reply_text (stat_reply keys files total live) =
    line (and_number (and_number (and_number (numbered (codes "STAT ") keys) files) total) live)
reply_text Bye = line (codes "BYE")
reply_text Memory = line (codes "MEMORY")
reply_text Disk = line (codes "DISK")
reply_text Read = line (codes "READ")
reply_text (Damaged d) =
    line (and_hex (and_hex (and_number (numbered (codes "DAMAGED ") d.file.0) d.at) d.kept) d.found)
reply_text (Cut file total at) = line (and_number (and_number (numbered (codes "CUT ") file.0) total) at)
reply_text (full_reply full) = line (codes "FULL " ++ full_word full)
reply_text (Syntax offset) = line (numbered (codes "SYNTAX ") offset)

-- the bytes of a key, within its bounds
pub record FitsKey (key : List ℕ) : Type 0 where
  pub bounds : IsKey key
  pub bytes : AreBytes key

-- the bytes of a value, within its bounds
pub record FitsValue (value : List ℕ) : Type 0 where
  pub bounds : IsValue value
  pub bytes : AreBytes value

-- a request that a client may send
abbrev pub Fits : Request → Type 0
Fits (Get key) = FitsKey key
Fits (Put key value) = FitsKey key × FitsValue value
Fits (Delete key) = FitsKey key
Fits request = Unit {0}

-- a reply that a server may send: each number is one of its field's type
abbrev pub FitsReply : Reply → Type 0
FitsReply (Value value) = FitsValue value
FitsReply (Numbered seq) = seq.0 < 2 ^ 64
FitsReply (Pair key value) = FitsKey key × FitsValue value
FitsReply (Key key) = FitsKey key
FitsReply (End n) = n < 2 ^ 64
FitsReply (Synced seq) = seq.0 < 2 ^ 64
FitsReply (Merged inputs outputs) = (inputs < 2 ^ 32) × (outputs < 2 ^ 32)
FitsReply (Held n) = n < 2 ^ 32
FitsReply (Job id) = id.0 < 2 ^ 32
FitsReply (stat_reply keys files total live) =
    (keys < 2 ^ 64) × (files < 2 ^ 64) × (total < 2 ^ 128) × (live < 2 ^ 128)
FitsReply (Damaged d) = (d.file.0 < 2 ^ 32) × (d.at < 2 ^ 64) × (d.kept < 2 ^ 32) × (d.found < 2 ^ 32)
FitsReply (Cut file total at) = (file.0 < 2 ^ 32) × (total < 2 ^ 64) × (at < 2 ^ 64)
FitsReply (Syntax offset) = offset < 2 ^ 64
FitsReply reply = Unit {0}

-- the request stands at the front of the stream, and the rest follows it
pub record StandsIn (stream : List ℕ) (request : Request) (rest : List ℕ) : Type 0 where
  pub fits : Fits request
  pub whole : stream ≡ request_text request ++ rest

-- no request stands at the front of the stream
abbrev pub NoneStands : List ℕ → Type 0
NoneStands stream = (request : Request) (rest : List ℕ) → StandsIn stream request rest → ⊥

-- the stream is the front of a request and not all of it; the empty stream is the front of each
pub record IsPartial (stream : List ℕ) : Type 0 where
  pub request : Request
  pub fits : Fits request
  pub more : List ℕ
  pub some : 0 < length more
  pub goes_on : stream ++ more ≡ request_text request

-- however the stream goes on, no request stands at its front
abbrev pub IsBad : List ℕ → Type 0
IsBad stream = (more : List ℕ) → NoneStands (stream ++ more)

-- the same of replies
pub record ReplyStands (stream : List ℕ) (reply : Reply) (rest : List ℕ) : Type 0 where
  pub fits : FitsReply reply
  pub whole : stream ≡ reply_text reply ++ rest

abbrev pub NoReplyStands : List ℕ → Type 0
NoReplyStands stream = (reply : Reply) (rest : List ℕ) → ReplyStands stream reply rest → ⊥

pub record IsPartialReply (stream : List ℕ) : Type 0 where
  pub reply : Reply
  pub fits : FitsReply reply
  pub more : List ℕ
  pub some : 0 < length more
  pub goes_on : stream ++ more ≡ reply_text reply

abbrev pub IsBadReply : List ℕ → Type 0
IsBadReply stream = (more : List ℕ) → NoReplyStands (stream ++ more)
