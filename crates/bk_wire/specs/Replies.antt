-- What reading a reply finds.
use Rattle.std.specs.Prelude.{◌≡◌, ℕ, List, length, drop, Result, Ok, Err}
use Rattle.bk_base.specs.declared.requests.Reply.{Reply}
use Rattle.bk_base.specs.declared.requests.Reply.TheVariants.{Value, Pair, Key}
use Rattle.bk_laws.specs.Wire.{reply_text, ReplyStands, IsPartialReply, IsBadReply}
use Rattle.bk_wire.specs.declared.reply_reader.ReadReply.{ReadReply}
use Rattle.bk_wire.specs.declared.reply_reader.ReplyStop.{ReplyStop}
use Rattle.bk_wire.specs.declared.reply_reader.ReplyStop.TheVariants.{Short, Bad, Memory}

-- the reply has a key or a value, so that memory is needed to read it
abbrev pub OwnsBytes : Reply → Type 0
OwnsBytes (Value value) = Unit {0}
OwnsBytes (Pair key value) = Unit {0}
OwnsBytes (Key key) = Unit {0}
OwnsBytes reply = ⊥

-- the reply that was read stands at the front and has this many bytes; a stop says why none was read
abbrev pub Reads : Result ReadReply ReplyStop → List ℕ → Type 0
Reads (Ok read) bytes =
    ReplyStands bytes read.reply (drop read.size bytes) × (read.size ≡ length (reply_text read.reply))
Reads (Err Short) bytes = IsPartialReply bytes
Reads (Err Bad) bytes = IsBadReply bytes
Reads (Err Memory) bytes = (reply : Reply) × (rest : List ℕ) × ReplyStands bytes reply rest × OwnsBytes reply

-- the answer to the text of this reply, whatever follows it
abbrev pub IsReadBack : Reply → Result ReadReply ReplyStop → Type 0
IsReadBack reply (Ok read) = (read.reply ≡ reply) × (read.size ≡ length (reply_text reply))
IsReadBack reply (Err Memory) = Unit {0}
IsReadBack reply (Err Short) = ⊥
IsReadBack reply (Err Bad) = ⊥
