-- What reading a reply says of some bytes, and that they are one of three, as of requests.
use Rattle.std.proofs.Common.{◌≡◌, ℕ, List, [], ◌++◌, ◌+◌, ◌-◌, ◌⊎◌, length, drop, Result, Ok, Err, refl, sym, ap, ◌∙◌, inl, inr, append-nil}
use Rattle.bk_base.specs.declared.requests.Reply.{Reply}
use Rattle.bk_base.specs.Bounds.{AreBytes}
use Rattle.bk_laws.specs.Wire.{FitsReply, reply_text, ReplyStands, NoReplyStands, IsPartialReply, IsBadReply}
use Rattle.bk_wire.specs.declared.stops.Stop.{Stop}
use Rattle.bk_wire.specs.declared.stops.Stop.TheVariants.{Short, Bad}
use Rattle.bk_wire.specs.declared.reply_reader.ReadReply.{ReadReply}
use Rattle.bk_wire.specs.declared.reply_reader.ReplyStop.{ReplyStop}
use Rattle.bk_wire.specs.declared.reply_reader.ReplyStop.TheVariants.{Short as short_stop, Bad as bad_stop, Memory as memory_stop}
use Rattle.bk_wire.specs.ReplyReading.{reply_at}
use Rattle.bk_wire.specs.FoundReply.{FindsReply}
use Rattle.bk_wire.specs.Replies.{Reads, IsReadBack}
use Rattle.bk_wire.proofs.CodeLaws as laws
use Rattle.bk_wire.proofs.ReplyCodes.{reply_code}

partial : (bytes : List ℕ) → AreBytes bytes → reply_at bytes ≡ Err Short → IsPartialReply bytes
partial bytes all e =
    let (r, more, fits, some, goes_on) = laws.cut_off reply_code bytes all e in
    record { reply = r; fits = fits; more = more; some = some; goes_on = goes_on }

bad : (bytes : List ℕ) → AreBytes bytes → reply_at bytes ≡ Err Bad → IsBadReply bytes
bad bytes all e more r rest stands = laws.never reply_code bytes all e more r rest stands.fits stands.whole

-- no reply begins another
pub same_reply : (r s : Reply) (xs ys : List ℕ) → FitsReply r → FitsReply s
    → reply_text r ++ xs ≡ reply_text s ++ ys → (r ≡ s) × (xs ≡ ys)
same_reply = laws.one_text reply_code

pub none_in_partial : (bytes : List ℕ) → IsPartialReply bytes → NoReplyStands bytes
none_in_partial bytes part s rest stands =
    laws.none_in_front reply_code bytes part.reply part.more s rest part.fits part.some part.goes_on
    stands.fits stands.whole

pub none_in_bad : (bytes : List ℕ) → IsBadReply bytes → NoReplyStands bytes
none_in_bad bytes never r rest stands =
    never [] r rest (record { fits = stands.fits; whole = append-nil bytes ∙ stands.whole })

pub bad_not_partial : (bytes : List ℕ) → IsBadReply bytes → IsPartialReply bytes → ⊥
bad_not_partial bytes never part =
    never part.more part.reply []
    (record { fits = part.fits; whole = part.goes_on ∙ sym (append-nil (reply_text part.reply)) })

-- bytes are one of the three
pub one_of_three : (bytes : List ℕ) → AreBytes bytes → IsPartialReply bytes
    ⊎ (((reply : Reply) × (rest : List ℕ) × ReplyStands bytes reply rest) ⊎ IsBadReply bytes)
one_of_three bytes all = go (reply_at bytes) refl
  where
    go : (read : Result (Reply × List ℕ) Stop) → reply_at bytes ≡ read → IsPartialReply bytes
        ⊎ (((reply : Reply) × (rest : List ℕ) × ReplyStands bytes reply rest) ⊎ IsBadReply bytes)
    go (Ok x) e =
        let (fits, whole) = reply_code.whole bytes x.0 x.1 all e in
        inr (inl (x.0, x.1, record { fits = fits; whole = whole }))
    go (Err Short) e = inl (partial bytes all e)
    go (Err Bad) e = inr (inr (bad bytes all e))

-- what was found, by the number of its bytes
pub rest_fits : (bytes : List ℕ) (r : Reply) (rest : List ℕ) → AreBytes bytes
    → reply_at bytes ≡ Ok (r, rest) → length bytes ≡ length (reply_text r) + length rest
rest_fits = laws.rest_length reply_code

pub found_here : (bytes : List ℕ) (r : Reply) (rest : List ℕ) → AreBytes bytes
    → reply_at bytes ≡ Ok (r, rest) → ReplyStands bytes r (drop (length bytes - length rest) bytes)
    × (length bytes - length rest ≡ length (reply_text r))
found_here bytes r rest all e =
    let (fits, whole, size) = laws.found_here reply_code bytes r rest all e in
    (record { fits = fits; whole = whole }, size)

pub stopped : (bytes : List ℕ) (stop : Stop) → AreBytes bytes → reply_at bytes ≡ Err stop → FindsReply (Err stop) bytes
stopped bytes Short all e = partial bytes all e
stopped bytes Bad all e = bad bytes all e

-- what was written is read back, whatever follows it
pub back : (r : Reply) (rest : List ℕ) (read : Result ReadReply ReplyStop) → FitsReply r
    → Reads read (reply_text r ++ rest) → IsReadBack r read
back r rest (Ok read) fits reads =
    let same = same_reply read.reply r _ rest reads.0.fits fits (sym reads.0.whole) in
    (same.0, reads.1 ∙ ap (λ (s : Reply). length (reply_text s)) same.0)
back r rest (Err memory_stop) fits reads = tt
back r rest (Err short_stop) fits reads =
    none_in_partial (reply_text r ++ rest) reads r rest (record { fits = fits; whole = refl })
back r rest (Err bad_stop) fits reads =
    none_in_bad (reply_text r ++ rest) reads r rest (record { fits = fits; whole = refl })
