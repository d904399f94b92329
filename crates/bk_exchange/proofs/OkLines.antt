-- The writes that a session's own calls made are those that its OK lines tell.
use Rattle.std.proofs.Common.{◌≡◌, ◌∙◌, ◌⊎◌, ℕ, List, [], ◌∷◌, ◌++◌, Bool, true, false, Option}
use Rattle.std.proofs.Common.{Some, None}
use Rattle.std.proofs.Common.{refl, sym, ap, inl, inr}
use Rattle.std.proofs.lemmas.Bool.{true≢false}
use Rattle.std.proofs.lemmas.List.{append-nil}
use Rattle.std.proofs.lemmas.List.Concat.{flat_map-append}
use Rattle.bk_base.specs.declared.calls.Answer.{Answer}
use Rattle.bk_base.specs.declared.calls.Answer.TheVariants.{Nothing, Numbered as numbered_answer}
use Rattle.bk_base.specs.declared.calls.Call.TheVariants.{Put as put_call, Delete as delete_call}
use Rattle.bk_base.specs.declared.numbers.Moment.{Moment}
use Rattle.bk_base.specs.declared.numbers.Seq.{Seq}
use Rattle.bk_base.specs.declared.requests.Reply.{Reply}
use Rattle.bk_base.specs.declared.requests.Reply.TheVariants.{Absent, Numbered}
use Rattle.bk_base.specs.declared.requests.Request.{Request}
use Rattle.bk_base.specs.declared.requests.Request.TheVariants.{Get, Put, Delete, Fold, Keys, Sync}
use Rattle.bk_base.specs.declared.requests.Request.TheVariants.{Stat, Quit}
use Rattle.bk_base.specs.declared.statuses.SessionEnd.{SessionEnd}
use Rattle.bk_base.specs.declared.statuses.SessionEnd.TheVariants.{Quit as quit_end, Sink, Memory, Disk}
use Rattle.bk_base.specs.declared.writes.Body.TheVariants.{Put as put_body, Gone}
use Rattle.bk_base.specs.declared.writes.Write.{Write}
use Rattle.bk_exchange.specs.Points.{Event, Point, Said, events, point_after}
use Rattle.bk_exchange.specs.Listings.{Row, row_calls}
use Rattle.bk_exchange.specs.Answers.{Context, ShowsDelete, ShowsPut, own_calls}
use Rattle.bk_exchange.specs.Refusals.{ClosesIf, closes_after, is_listing, may_refuse}
use Rattle.bk_exchange.specs.Exchanges.{Exchange, IsCut, IsExchange, Replies, moment_of, steps_of}
use Rattle.bk_exchange.specs.Sessions.{AreServed, IsLast, IsQuit, IsTranscript, Transcript, as_list}
use Rattle.bk_exchange.specs.Sessions.{exchanges}
use Rattle.bk_exchange.specs.Writes.{put_of, told_by, told_writes, writes_in, written}
use Rattle.bk_exchange.proofs.Events.{own_calls-append}
use Rattle.bk_exchange.proofs.Stretches.{steps-append}
use Rattle.bk_exchange.proofs.Tries.{told-append}

pub writes-append : (xs ys : List Said) → writes_in (xs ++ ys) ≡ writes_in xs ++ writes_in ys
writes-append xs ys = flat_map-append (λ (s : Said). written s.call s.answer) xs ys

-- ---- puts and deletes

put_tells : (key value : List ℕ) (now : Moment) (answer : Answer) (reply : Reply)
    → ShowsPut answer reply
    → written (put_call key value now) answer ++ [] ≡ told_by (Put key value) now (reply ∷ [])
put_tells key value now (numbered_answer seq) (Numbered shown) is =
    ap (λ (n : Seq). put_of n now key (put_body value) ∷ []) is
put_tells key value now answer reply shows = absurd shows

delete_tells : (key : List ℕ) (now : Moment) (answer : Answer) (reply : Reply)
    → ShowsDelete answer reply
    → written (delete_call key now) answer ++ [] ≡ told_by (Delete key) now (reply ∷ [])
delete_tells key now (numbered_answer seq) (Numbered shown) is =
    ap (λ (n : Seq). put_of n now key Gone ∷ []) is
delete_tells key now Nothing Absent shows = refl
delete_tells key now answer reply shows = absurd shows

put_refused : (key value : List ℕ) (now : Moment) (line : Reply)
    → may_refuse (Put key value) line ≡ true
    → [] ≡ told_by (Put key value) now (line ∷ [])
put_refused key value now (Numbered n) may = absurd (true≢false (sym may))
put_refused key value now line may = refl

delete_refused : (key : List ℕ) (now : Moment) (line : Reply) → may_refuse (Delete key) line ≡ true
    → [] ≡ told_by (Delete key) now (line ∷ [])
delete_refused key now (Numbered n) may = absurd (true≢false (sym may))
delete_refused key now line may = refl

-- ---- listings

pub row_writes : (slot : ℕ) (rows : List Row) (behind : List Said)
    → writes_in (row_calls slot rows ++ behind) ≡ writes_in behind
row_writes slot [] behind = refl
row_writes slot (row ∷ rows) behind = row_writes slot rows behind

closing_writes : (closed : Bool) (slot : ℕ) (dropped : List Row) (behind : List Said)
    → ClosesIf closed slot dropped behind → writes_in behind ≡ []
closing_writes true slot dropped behind is = ap writes_in is
closing_writes false slot dropped behind (inl is) = ap writes_in is
closing_writes false slot dropped behind (inr (inl is)) = ap writes_in is
closing_writes false slot dropped behind (inr (inr is)) = ap writes_in is.0

listing_told : (request : Request) (now : Moment) (replies : List Reply) → is_listing request ≡ true
    → [] ≡ told_by request now replies
listing_told (Put key value) now replies is = absurd (true≢false (sym is))
listing_told (Delete key) now replies is = absurd (true≢false (sym is))
listing_told request now replies is = refl

-- ---- one exchange

tells_of : (c : Context) (request : Request) (now : Moment) (es : List Event) (replies : List Reply)
    → Replies c request now es replies → writes_in (own_calls c es) ≡ told_by request now replies
tells_of c (Get key) now es replies (inl a) = ap writes_in a.called
tells_of c (Get key) now es replies (inr (inl r)) = ap writes_in r.called
tells_of c (Get key) now es replies (inr (inr f)) = ap writes_in f.called
tells_of c (Put key value) now es replies (inl a) =
    ap writes_in a.called ∙ put_tells key value now a.answer a.reply a.shows
    ∙ ap (told_by (Put key value) now) (sym a.lines)
tells_of c (Put key value) now es replies (inr (inl r)) =
    ap writes_in r.called ∙ put_refused key value now r.line r.may
    ∙ ap (told_by (Put key value) now) (sym r.lines)
tells_of c (Put key value) now es replies (inr (inr f)) = absurd f
tells_of c (Delete key) now es replies (inl a) =
    ap writes_in a.called ∙ delete_tells key now a.answer a.reply a.shows
    ∙ ap (told_by (Delete key) now) (sym a.lines)
tells_of c (Delete key) now es replies (inr (inl r)) =
    ap writes_in r.called ∙ delete_refused key now r.line r.may
    ∙ ap (told_by (Delete key) now) (sym r.lines)
tells_of c (Delete key) now es replies (inr (inr f)) = absurd f
tells_of c Fold now es replies (inl a) = ap writes_in a.called ∙ row_writes a.slot a.rows _
tells_of c Fold now es replies (inr (inl r)) = ap writes_in r.called
tells_of c Fold now es replies (inr (inr f)) =
    ap writes_in f.called ∙ row_writes f.slot (f.rows ++ f.dropped) f.behind
    ∙ closing_writes (closes_after f.line) f.slot f.dropped f.behind f.closes
tells_of c Keys now es replies (inl a) = ap writes_in a.called ∙ row_writes a.slot a.rows _
tells_of c Keys now es replies (inr (inl r)) = ap writes_in r.called
tells_of c Keys now es replies (inr (inr f)) =
    ap writes_in f.called ∙ row_writes f.slot (f.rows ++ f.dropped) f.behind
    ∙ closing_writes (closes_after f.line) f.slot f.dropped f.behind f.closes
tells_of c Sync now es replies (inl a) = ap writes_in a.called
tells_of c Sync now es replies (inr (inl r)) = ap writes_in r.called
tells_of c Sync now es replies (inr (inr f)) = absurd f
tells_of c Stat now es replies (inl a) = ap writes_in a.called
tells_of c Stat now es replies (inr (inl r)) = ap writes_in r.called
tells_of c Stat now es replies (inr (inr f)) = absurd f
tells_of c Quit now es replies (inl a) = ap writes_in a.called
tells_of c Quit now es replies (inr (inl r)) = ap writes_in r.called
tells_of c Quit now es replies (inr (inr f)) = absurd f

pub exchange_tells : (c : Context) (p : Point) (x : Exchange) → IsExchange c p x
    → writes_in (own_calls c (events p x.steps)) ≡ told_by x.request (moment_of x.now) x.replies
exchange_tells c p x is = tells_of c x.request (moment_of x.now)
    (events p x.steps) x.replies is.replied

cut_tells : (c : Context) (p : Point) (x : Exchange) → IsCut c p x
    → writes_in (own_calls c (events p x.steps)) ≡ told_by x.request (moment_of x.now) x.replies
cut_tells c p x cut =
    ap writes_in cut.called ∙ row_writes cut.slot cut.rows cut.behind
    ∙ closing_writes _ cut.slot [] cut.behind cut.closes
    ∙ listing_told x.request (moment_of x.now) x.replies cut.listing

-- ---- a session

served_tell : (c : Context) (p : Point) (xs : List Exchange) → AreServed c p xs
    → writes_in (own_calls c (events p (steps_of xs))) ≡ told_writes xs
served_tell c p [] s = refl
served_tell c p (x ∷ xs) s =
    ap writes_in (own_calls-append c p x.steps (steps_of xs))
    ∙ writes-append (own_calls c (events p x.steps)) (own_calls c (events (point_after p x.steps)
    (steps_of xs)))
    ∙ ap (λ (ws : List Write). ws ++ writes_in (own_calls c (events (point_after p x.steps)
    (steps_of xs))))
    (exchange_tells c p x s.0)
    ∙ ap (λ (ws : List Write). told_by x.request (moment_of x.now) x.replies ++ ws)
    (served_tell c (point_after p x.steps) xs s.2)

either_tells : (c : Context) (p : Point) (x : Exchange) → IsQuit c p x ⊎ IsCut c p x
    → writes_in (own_calls c (events p x.steps)) ≡ told_by x.request (moment_of x.now) x.replies
either_tells c p x (inl quit) = exchange_tells c p x quit.1
either_tells c p x (inr cut) = cut_tells c p x cut

one_tells : (c : Context) (p : Point) (x : Exchange) → IsQuit c p x ⊎ IsCut c p x
    → writes_in (own_calls c (events p (steps_of (x ∷ [])))) ≡ told_writes (x ∷ [])
one_tells c p x is =
    ap (λ (h : _). writes_in (own_calls c (events p h))) (append-nil x.steps)
    ∙ either_tells c p x is ∙ sym (append-nil (told_by x.request (moment_of x.now) x.replies))

last_tells : (c : Context) (p : Point) (end : SessionEnd) (last : Option Exchange)
    → IsLast c p end last
    → writes_in (own_calls c (events p (steps_of (as_list last)))) ≡ told_writes (as_list last)
last_tells c p end None is = refl
last_tells c p quit_end (Some x) is = one_tells c p x (inl is)
last_tells c p Sink (Some x) is = one_tells c p x is
last_tells c p Memory (Some x) is = one_tells c p x is
last_tells c p Disk (Some x) is = one_tells c p x is
last_tells c p end (Some x) is = absurd is

pub session_tells : (c : Context) (p : Point) (end : SessionEnd) (t : Transcript)
    → IsTranscript c p end t
    → writes_in (own_calls c (events p (steps_of (exchanges t)))) ≡ told_writes (exchanges t)
session_tells c p end t said =
    ap (λ (h : _). writes_in (own_calls c (events p h))) (steps-append t.served (as_list t.last))
    ∙ ap writes_in (own_calls-append c p (steps_of t.served) (steps_of (as_list t.last)))
    ∙ writes-append (own_calls c (events p (steps_of t.served))) _
    ∙ ap (λ (ws : List Write). ws ++ writes_in (own_calls c (events (point_after p
    (steps_of t.served))
    (steps_of (as_list t.last))))) (served_tell c p t.served said.served)
    ∙ ap (λ (ws : List Write). told_writes t.served ++ ws)
    (last_tells c (point_after p (steps_of t.served)) end t.last said.last)
    ∙ sym (told-append t.served (as_list t.last))
