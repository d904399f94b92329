-- What an exchange's replies are, and what the end of a session says.
use Rattle.std.proofs.Common.{◌≡◌, ◌∙◌, ℕ, ◌+◌, ◌<◌, List, [], ◌∷◌, ◌++◌, true, false}
use Rattle.std.proofs.Common.{length, drop, refl, sym, ap, subst, inl, inr, arith}
use Rattle.std.proofs.lemmas.Bool.{true≢false}
use Rattle.std.proofs.lemmas.List.{append-nil, append_assoc, append_cancel_left}
use Rattle.std.proofs.lemmas.List.{append_cancel_right, drop_at}
use Rattle.bk_base.specs.declared.calls.Answer.{Answer}
use Rattle.bk_base.specs.declared.calls.Answer.TheVariants.{Nothing, Found}
use Rattle.bk_base.specs.declared.calls.Answer.TheVariants.{Numbered as numbered_answer}
use Rattle.bk_base.specs.declared.numbers.Moment.{Moment}
use Rattle.bk_base.specs.declared.requests.Reply.{Reply}
use Rattle.bk_base.specs.declared.requests.Reply.TheVariants.{Value, Absent, Numbered, Pair, Key}
use Rattle.bk_base.specs.declared.requests.Reply.TheVariants.{End, Synced, Bye}
use Rattle.bk_base.specs.declared.requests.Request.{Request}
use Rattle.bk_base.specs.declared.requests.Request.TheVariants.{Get, Put, Delete, Fold, Keys, Sync}
use Rattle.bk_base.specs.declared.requests.Request.TheVariants.{Stat, Quit}
use Rattle.bk_base.specs.declared.statuses.SessionEnd.{SessionEnd}
use Rattle.bk_base.specs.declared.statuses.SessionEnd.TheVariants.{Quit as quit_end}
use Rattle.bk_base.specs.declared.statuses.SessionEnd.TheVariants.{End as input_end, Syntax, Source}
use Rattle.bk_base.specs.declared.statuses.SessionEnd.TheVariants.{Sink, Long, Memory, Disk as disk_end}
use Rattle.bk_laws.specs.Wire.{IsBad, IsPartial, StandsIn, request_text}
use Rattle.bk_exchange.specs.Points.{Event, Point, events}
use Rattle.bk_exchange.specs.Listings.{Row, row_lines}
use Rattle.bk_exchange.specs.Answers.{Context, ShowsDelete, ShowsGet, ShowsPut, ShowsSync}
use Rattle.bk_exchange.specs.Refusals.{is_listing, may_drop, may_refuse, may_spoil}
use Rattle.bk_exchange.specs.Exchanges.{Exchange, IsClosed, IsExchange, Replies, is_row, moment_of}
use Rattle.bk_exchange.specs.Sessions.{Reads, ends_at_limit}

-- ---- each request has its replies

get_line : (answer : Answer) (reply : Reply) → ShowsGet answer reply → is_row reply ≡ false
get_line (Found value) (Value shown) shows = refl
get_line Nothing Absent shows = refl
get_line answer reply shows = absurd shows

put_line : (answer : Answer) (reply : Reply) → ShowsPut answer reply → is_row reply ≡ false
put_line (numbered_answer seq) (Numbered shown) shows = refl
put_line answer reply shows = absurd shows

delete_line : (answer : Answer) (reply : Reply) → ShowsDelete answer reply → is_row reply ≡ false
delete_line (numbered_answer seq) (Numbered shown) shows = refl
delete_line Nothing Absent shows = refl
delete_line answer reply shows = absurd shows

sync_line : (answer : Answer) (reply : Reply) → ShowsSync answer reply → is_row reply ≡ false
sync_line (numbered_answer seq) (Synced shown) shows = refl
sync_line answer reply shows = absurd shows

refusal_line : (request : Request) (line : Reply) → may_refuse request line ≡ true
    → is_row line ≡ false
refusal_line request (Pair key value) may = absurd (true≢false (sym may))
refusal_line request (Key key) may = absurd (true≢false (sym may))
refusal_line request line may = refl

spoiled_line : (line : Reply) → may_spoil line ≡ true → is_row line ≡ false
spoiled_line (Pair key value) may = absurd (true≢false (sym may))
spoiled_line (Key key) may = absurd (true≢false (sym may))
spoiled_line line may = refl

fold_line : (line : Reply) (n : ℕ) → may_drop Fold line n ≡ true → is_row line ≡ false
fold_line (Pair key value) n may = absurd (true≢false (sym may))
fold_line (Key key) n may = absurd (true≢false (sym may))
fold_line line n may = refl

keys_line : (line : Reply) (n : ℕ) → may_drop Keys line n ≡ true → is_row line ≡ false
keys_line (Pair key value) n may = absurd (true≢false (sym may))
keys_line (Key key) n may = absurd (true≢false (sym may))
keys_line line n may = refl

one_line : (request : Request) (line : Reply) (replies : List Reply) → replies ≡ line ∷ []
    → is_row line ≡ false
    → IsClosed request replies
one_line request line replies is closes =
    record { rows = []; line = line; lines = is; alone = λ other. refl; closes = closes }

behind_rows : (request : Request) (rows : List Row) (line : Reply) (replies : List Reply)
    → is_listing request ≡ true → replies ≡ row_lines request rows ++ line ∷ []
    → is_row line ≡ false
    → IsClosed request replies
behind_rows request rows line replies lists is closes = record {
  rows = rows;
  line = line;
  lines = is;
  alone = λ other. absurd (true≢false (sym lists ∙ other));
  closes = closes;
}

closed_of : (c : Context) (request : Request) (now : Moment) (es : List Event)
    (replies : List Reply)
    → Replies c request now es replies → IsClosed request replies
closed_of c request now es replies (inr (inl r)) =
    one_line request r.line replies r.lines (refusal_line request r.line r.may)
closed_of c (Get key) now es replies (inl a) =
    one_line (Get key) a.reply replies a.lines (get_line a.answer a.reply a.shows)
closed_of c (Get key) now es replies (inr (inr f)) =
    one_line (Get key) f.line replies f.lines (spoiled_line f.line f.may)
closed_of c (Put key value) now es replies (inl a) =
    one_line (Put key value) a.reply replies a.lines (put_line a.answer a.reply a.shows)
closed_of c (Put key value) now es replies (inr (inr f)) = absurd f
closed_of c (Delete key) now es replies (inl a) =
    one_line (Delete key) a.reply replies a.lines (delete_line a.answer a.reply a.shows)
closed_of c (Delete key) now es replies (inr (inr f)) = absurd f
closed_of c Fold now es replies (inl a) = behind_rows Fold a.rows (End
    (length a.rows)) replies refl a.lines refl
closed_of c Fold now es replies (inr (inr f)) =
    behind_rows Fold f.rows f.line replies refl f.lines (fold_line f.line (length f.dropped) f.may)
closed_of c Keys now es replies (inl a) = behind_rows Keys a.rows (End
    (length a.rows)) replies refl a.lines refl
closed_of c Keys now es replies (inr (inr f)) =
    behind_rows Keys f.rows f.line replies refl f.lines (keys_line f.line (length f.dropped) f.may)
closed_of c Sync now es replies (inl a) =
    one_line Sync a.reply replies a.lines (sync_line a.answer a.reply a.shows)
closed_of c Sync now es replies (inr (inr f)) = absurd f
closed_of c Stat now es replies (inl a) = one_line Stat _ replies a.lines refl
closed_of c Stat now es replies (inr (inr f)) = absurd f
closed_of c Quit now es replies (inl a) = one_line Quit Bye replies a.lines refl
closed_of c Quit now es replies (inr (inr f)) = absurd f

pub closed : (c : Context) (p : Point) (x : Exchange) → IsExchange c p x
    → IsClosed x.request x.replies
closed c p x is = closed_of c x.request (moment_of x.now) (events p x.steps) x.replies is.replied

-- ---- the end

pub end_read : (most : ℕ) (requests input left : List ℕ) → Reads most input_end requests input left
    → (input ≡ requests) × (left ≡ [])
end_read most requests input left r = (
  r.whole ∙ ap (λ (l : List ℕ). (requests ++ r.part) ++ l) r.ends.1
      ∙ append-nil (requests ++ r.part) ∙ ap (λ (l : List ℕ). requests ++ l) r.ends.0
      ∙ append-nil requests,
  r.ends.1,
)

-- a request that stands where SYNTAX says that none does
pub none_there : (most at : ℕ) (requests input left : List ℕ) (request : Request) (rest : List ℕ)
    → Reads most (Syntax at) requests input left → at ≡ length requests
    → StandsIn (drop at input) request rest → ⊥
none_there most at requests input left request rest r is stands =
    let behind : drop at input ≡ r.part ++ left =
    ap (λ (n : ℕ). drop n input) is ∙ ap (drop (length requests)) (r.whole
    ∙ append_assoc requests r.part left)
    ∙ drop_at requests (r.part ++ left) (length requests) refl in
    r.ends.none request rest (subst (λ (l : List ℕ). StandsIn l request rest) behind stands)

partial_is_not_bad : (part : List ℕ) → IsPartial part → IsBad part → ⊥
partial_is_not_bad part p bad =
    bad p.more p.request [] (record {
      fits = p.fits;
      whole = p.goes_on
          ∙ sym (append-nil (request_text p.request));
    })

same_part : (requests part other left : List ℕ)
    → (requests ++ part) ++ left ≡ (requests ++ other) ++ left
    → part ≡ other
same_part requests part other left is =
    append_cancel_left requests part other (append_cancel_right (requests ++ part)
    (requests ++ other) left is)

too_few : (offset a b most : ℕ) → a ≡ b → offset + a < most → offset + b ≡ most → ⊥
too_few offset a b most same less all = omega arith

-- a session that took all that it may, and whose last request isn't whole, ends so
pub at_limit : (most : ℕ) (end : SessionEnd) (requests input left part : List ℕ)
    → Reads most end requests input left → input ≡ (requests ++ part) ++ left → IsPartial part
    → length requests + length part ≡ most → ends_at_limit end ≡ true
at_limit most quit_end requests input left part r is cut all = refl
at_limit most input_end requests input left part r is cut all =
    let same : r.part ≡ part = same_part requests r.part part left (sym r.whole ∙ is) in
    let none : length part ≡ 0 = ap length (sym same ∙ r.ends.0) in
    let less : length requests < most = r.ends.2 in
    absurd (omega arith)
at_limit most (Syntax at) requests input left part r is cut all =
    let same : r.part ≡ part = same_part requests r.part part left (sym r.whole ∙ is) in
    elim r.ends.seen [
      | inl bad ↦ absurd (partial_is_not_bad part cut (subst IsBad same bad))
      | inr seen ↦ absurd (too_few (length requests) (length r.part) (length part) most
          (ap length same) seen.1 all)
    ]
at_limit most Source requests input left part r is cut all =
    let same : r.part ≡ part = same_part requests r.part part left (sym r.whole ∙ is) in
    absurd (too_few (length requests) (length r.part) (length part) most
    (ap length same) r.ends.1 all)
at_limit most Sink requests input left part r is cut all = refl
at_limit most Long requests input left part r is cut all = refl
at_limit most Memory requests input left part r is cut all = refl
at_limit most disk_end requests input left part r is cut all = refl
