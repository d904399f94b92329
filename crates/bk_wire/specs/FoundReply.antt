-- A reply that was found in some bytes, without where it lies. Only private functions speak of it.
use Rattle.std.specs.Prelude.{◌≡◌, ℕ, List, length, drop, Result, Ok, Err}
use Rattle.bk_laws.specs.Wire.{reply_text, ReplyStands, IsPartialReply, IsBadReply}
use Rattle.bk_wire.specs.declared.stops.Stop.{Stop}
use Rattle.bk_wire.specs.declared.stops.Stop.TheVariants.{Short, Bad}
use Rattle.bk_base.specs.declared.requests.Reply.{Reply}
use Rattle.bk_base.specs.declared.requests.Reply.TheVariants.{Value as value_reply, Pair as pair_reply, Key as key_reply}
use Rattle.bk_wire.specs.declared.reply_reader.FoundReply.{FoundReply}
use Rattle.bk_wire.specs.declared.reply_reader.FoundReply.TheVariants.{Value, Pair, Key, Line}

abbrev pub reply_of : FoundReply → Reply
reply_of (Value value) = value_reply value.now
reply_of (Pair key value) = pair_reply key.now value.now
reply_of (Key key) = key_reply key.now
reply_of (Line reply) = reply

-- the reply that was found stands at the front and has this many bytes; a stop says why there is none
abbrev pub FindsReply : Result (FoundReply × ℕ) Stop → List ℕ → Type 0
FindsReply (Ok x) bytes =
    ReplyStands bytes (reply_of x.0) (drop x.1 bytes) × (x.1 ≡ length (reply_text (reply_of x.0)))
FindsReply (Err Short) bytes = IsPartialReply bytes
FindsReply (Err Bad) bytes = IsBadReply bytes
