-- The ways that a session goes on, and the ways that it ends.
use Rattle.std.proofs.Common.{◌≡◌, ◌∙◌, ◌⊎◌, ℕ, ◌+◌, ◌<◌, ◌≤◌, List, [], ◌∷◌, ◌++◌, length, Bool, true, false, refl}
use Rattle.std.proofs.Common.{sym, ap, subst, arith, inl, inr, append_assoc, IsTrue, Option, Some, None}
use Rattle.std.specs.List.{AllByRecursion, flat_map}
use Rattle.std.proofs.lemmas.List.{append-nil, length-append}
use Rattle.bk_base.specs.declared.histories.Opening.{Opening}
use Rattle.bk_base.specs.declared.histories.Step.{Step}
use Rattle.bk_base.specs.declared.requests.Request.{Request}
use Rattle.bk_base.specs.declared.requests.Request.TheVariants.{Sync as sync_request}
use Rattle.bk_base.specs.declared.statuses.SessionEnd.{SessionEnd}
use Rattle.bk_base.specs.declared.statuses.SessionEnd.TheVariants.{Quit as quit_end, End as input_end, Syntax}
use Rattle.bk_base.specs.declared.statuses.SessionEnd.TheVariants.{Source as source_end, Sink as sink_end}
use Rattle.bk_base.specs.declared.statuses.SessionEnd.TheVariants.{Long as long_end, Memory as memory_end}
use Rattle.bk_base.specs.declared.writes.Write.{Write}
use Rattle.bk_disk.specs.Streams.{LeftOver, Wrote}
use Rattle.bk_exchange.proofs.OneCaller.{log_on, own_more}
use Rattle.bk_exchange.proofs.Stretches.{EndsSo, ends_between, ends_within, goes_on, nothing_yet, one_exchange}
use Rattle.bk_exchange.specs.Answers.{Context}
use Rattle.bk_exchange.specs.Exchanges.{Exchange, IsCut, IsExchange}
use Rattle.bk_exchange.specs.OneThread.{IsOwn, MayBeTried, OneThread}
use Rattle.bk_exchange.specs.Points.{Point, point_of}
use Rattle.bk_exchange.specs.Refusals.{is_quit}
use Rattle.bk_exchange.specs.Sessions.{EndsReading, IsAt, IsLast, IsQuit, IsStart, IsSyntax, Reads}
use Rattle.bk_exchange.specs.Sessions.{Telling, Traffic, Transcript, Writes, exchanges, syntax_text}
use Rattle.bk_laws.specs.History.{log_of}
use Rattle.bk_laws.specs.Wire.{IsBad, IsPartial, NoneStands, StandsIn, reply_text, request_text}
use Rattle.bk_session.proofs.Steps.{crashes_on, log_last, tries_on}
use Rattle.bk_session.specs.Crashes.{CrashesBetween}
use Rattle.bk_session.specs.declared.serving.Onward.{Onward}
use Rattle.bk_session.specs.declared.serving.Onward.TheVariants.{Next, Quit, Sink, Memory}
use Rattle.bk_session.specs.Ending.{WritesLast, WritesAfter, WritesSyntax}
use Rattle.bk_session.specs.Following.{Follows, own_context}
use Rattle.bk_session.specs.Sessions.{IsHeld, Sides, sides_of, traffic}
use Rattle.bk_session.specs.Outgoing.{Outgoing, Loses, Sends, Stops}
use Rattle.bk_session.specs.Progress.{ComesOn, ComesToEnd, Goes, HasCome, HasServed, LosesPiece, TakesPiece, work_left}
use Rattle.bk_session.specs.Serving.{SessionState, Served, Serves, tells_of}
use Rattle.bk_store.specs.Events.{KeepsPast}
use Rattle.bk_wire.proofs.RequestLaws.{none_in_partial, some_text}
use Rattle.bk_wire.specs.Stream.{Stream, taken}

-- the two sides of a session in this state, with what its source has still to give
abbrev pub side_of : SessionState → List ℕ → Sides
side_of s left = sides_of s.store left s.out.written s.moments

-- ---- one exchange more

-- the next request was served, and the session goes on
pub more_served : (disk : Bool) (tells : Telling) (start : Sides) (old new : SessionState) (left read made : List ℕ)
    (o : Opening) (h : List Step) (first : List Write) (request : Request) (onward : Onward)
    → (a : HasServed disk tells.clock start.store start.moments old.store old.moments read made o h first)
    → (s : Served (tells_of disk tells.sink tells.clock) request onward old new o a.h2 a.tried)
    → IsExchange (own_context o) (point_of o a.h2) s.x → is_quit s.x.request ≡ false
    → (IsTrue disk → KeepsPast old.store.files.told new.store.files.told)
    → HasServed disk tells.clock start.store start.moments new.store new.moments (read ++ request_text s.x.request)
    (made ++ flat_map reply_text s.x.replies) o h first
more_served disk tells start old new left read made o h first request onward a s is goes past =
    let c = own_context o in
    let one = one_exchange c tells.clock a.h2 old.moments new.moments s.x is goes s.ticks in
    record {
      xs = a.xs ++ s.x ∷ [];
      h2 = a.h2 ++ s.x.steps;
      tried = s.left;
      so_far = goes_on c tells.clock h a.h2 (a.h2 ++ s.x.steps) read (request_text s.x.request) made
          (flat_map reply_text s.x.replies) start.moments old.moments new.moments a.xs (s.x ∷ []) a.so_far one;
      own = own_more c a.xs s.x a.own s.own;
      tries = tries_on (log_of o a.h2) (log_of o (a.h2 ++ s.x.steps)) first a.tried s.left a.xs s.x
          (log_on c a.h2 s.x is s.own) a.tries s.tries;
      follows = s.follows;
      crash = λ t. crashes_on start.store.files.told old.store.files.told new.store.files.told o h a.h2 first
          a.tried a.xs s.x a.so_far.steps a.tries (a.crash t) (past t) (s.since t) (s.crash t);
    }

-- ---- the end

-- what the sink took since the start, and what holds of it
pub record Output (P : List ℕ → Type 0) (start final : List ℕ) : Type 0 where
  pub out : List ℕ
  pub wrote : final ≡ start ++ out
  pub is : P out

as_output : {P Q : List ℕ → Type 0} (start final : List ℕ) → ((out : List ℕ) → P out → Q out)
    → Output P start final → Output Q start final
as_output start final then o = record { out = o.out; wrote = o.wrote; is = then o.out o.is }

-- the output, which is only known where the sink tells
pick : (b : Bool) (P : List ℕ → Type 0) (start final : List ℕ) → (IsTrue b → Output P start final)
    → (out : List ℕ) × (IsTrue b → (final ≡ start ++ out) × P out)
pick true P start final f = let o = f refl in (o.out, λ t. (o.wrote, o.is))
pick false P start final f = ([], λ t. let wrong : false ≡ true = t in absurd (cc wrong))

-- the session ended between two requests
pub between : (disk : Bool) (tells : Telling) (most : ℕ) (start now : Sides) (read made : List ℕ)
    (o : Opening) (h : List Step) (first : List Write) (end : SessionEnd)
    → HasServed disk tells.clock start.store start.moments now.store now.moments read made o h first
    → ((c : Context) (p : Point) → IsLast c p end None) → IsAt end (length read)
    → (IsTrue tells.source → Reads most end read start.left now.left)
    → (IsTrue tells.sink → Output (λ (out : List ℕ). Writes tells most end (traffic start now out) true read made)
    start.written now.written)
    → IsHeld disk tells most start now end o h first
between disk tells most start now read made o h first end a last offset reads writes =
    let c = own_context o in
    let (out, wrote) = pick tells.sink
    (λ (out : List ℕ). Writes tells most end (traffic start now out) true read made)
    start.written now.written writes in
    let t : Traffic = traffic start now out in
    let ends : EndsSo c tells most t end None read made =
    record { offset = offset; reads = reads; writes = λ told. (wrote told).1 } in
    let (s, is) = ends_between c tells most h a.h2 read made t end a.xs a.so_far
    (last c (point_of o a.h2)) ends in
    let all : a.xs ≡ a.xs ++ [] = sym (append-nil a.xs) in
    record {
      h2 = a.h2;
      tried = a.tried;
      output = out;
      session = s;
      one_thread = subst (λ (x : Transcript). OneThread c a.h2 first a.tried x) (sym is) (record {
        unspent = refl;
        own = subst (λ (xs : List Exchange). AllByRecursion (IsOwn c) xs) all a.own;
        tries = subst (λ (xs : List Exchange). MayBeTried (log_of o a.h2) first xs a.tried) all a.tries;
      });
      wrote = λ told. (wrote told).0;
      follows = a.follows;
      crash = λ told. subst (λ (x : Transcript). CrashesBetween start.store.files.told now.store.files.told
          o h first (exchanges x)) (sym is)
          (subst (λ (xs : List Exchange). CrashesBetween start.store.files.told now.store.files.told o h first xs)
          all (a.crash told));
    }

-- it ended with QUIT, or within a listing
pub within : (disk : Bool) (tells : Telling) (most : ℕ) (start : Sides) (old new : SessionState)
    (left written read made : List ℕ)
    (o : Opening) (h : List Step) (first : List Write) (request : Request) (onward : Onward) (end : SessionEnd)
    → (a : HasServed disk tells.clock start.store start.moments old.store old.moments read made o h first)
    → (s : Served (tells_of disk tells.sink tells.clock) request onward old new o a.h2 a.tried)
    → IsQuit (own_context o) (point_of o a.h2) s.x ⊎ IsCut (own_context o) (point_of o a.h2) s.x
    → IsLast (own_context o) (point_of o a.h2) end (Some s.x)
    → (IsTrue disk → KeepsPast old.store.files.told new.store.files.told)
    → IsAt end (length (read ++ request_text s.x.request))
    → (IsTrue tells.source → Reads most end (read ++ request_text s.x.request) start.left left)
    → (IsTrue tells.sink → Output (λ (out : List ℕ). Writes tells most end
    (traffic start (sides_of new.store left written new.moments) out) false
    (read ++ request_text s.x.request) (made ++ flat_map reply_text s.x.replies)) start.written written)
    → IsHeld disk tells most start (sides_of new.store left written new.moments) end o h first
within disk tells most start old new left written read made o h first request onward end a s either last past
    offset reads writes =
    let c = own_context o in
    let now : Sides = sides_of new.store left written new.moments in
    let taken_all = read ++ request_text s.x.request in
    let made_all = made ++ flat_map reply_text s.x.replies in
    let (out, wrote) = pick tells.sink
    (λ (out : List ℕ). Writes tells most end (traffic start now out) false taken_all made_all)
    start.written written writes in
    let t : Traffic = traffic start now out in
    let ends : EndsSo c tells most t end (Some s.x) taken_all made_all =
    record { offset = offset; reads = reads; writes = λ told. (wrote told).1 } in
    let (q, is) = ends_within c tells most h a.h2 read made t old.moments end a.xs s.x a.so_far last
    s.ticks ends in
    record {
      h2 = a.h2 ++ s.x.steps;
      tried = s.left;
      output = out;
      session = q;
      one_thread = subst (λ (x : Transcript). OneThread c (a.h2 ++ s.x.steps) first s.left x) (sym is) (record {
        unspent = refl;
        own = own_more c a.xs s.x a.own s.own;
        tries = tries_on (log_of o a.h2) (log_of o (a.h2 ++ s.x.steps)) first a.tried s.left a.xs s.x
            (log_last c a.h2 s.x either s.own) a.tries s.tries;
      });
      wrote = λ told. (wrote told).0;
      follows = s.follows;
      crash = λ told. subst (λ (x : Transcript). CrashesBetween start.store.files.told new.store.files.told
          o h first (exchanges x)) (sym is)
          (crashes_on start.store.files.told old.store.files.told new.store.files.told o h a.h2 first
          a.tried a.xs s.x a.so_far.steps a.tries (a.crash told) (past told) (s.since told) (s.crash told));
    }

-- ---- what was read and written before an end

-- what was read, where the end says of it only this
reads_so : (most : ℕ) (end : SessionEnd) (read rest input left : List ℕ) → input ≡ (read ++ rest) ++ left
    → length read + length rest ≤ most → EndsReading most end (length read) rest left
    → Reads most end read input left
reads_so most end read rest input left whole few ends = record {
  part = rest;
  whole = whole;
  within = omega (arith, few, length-append read rest);
  ends = ends;
}

-- the sink took a first part of all this
abbrev pub PartOut : List ℕ → List ℕ → List ℕ → Type 0
PartOut start final all = Output (λ (out : List ℕ). IsStart out all) start final

-- it took exactly this
abbrev pub WholeOut : List ℕ → List ℕ → List ℕ → Type 0
WholeOut start final all = Output (λ (out : List ℕ). out ≡ all) start final

-- what was out and gathered, as a session came to a request
abbrev pub IsOut : List ℕ → List ℕ → List ℕ → List ℕ → Type 0
IsOut start before gathered made = (out : List ℕ) × (before ≡ start ++ out) × (out ++ gathered ≡ made)

-- what was gathered is written whole
whole_out : (start before gathered made final : List ℕ) → IsOut start before gathered made
    → Wrote before final gathered → WholeOut start final made
whole_out start before gathered made final (out, was, all) wrote = record {
  out = out ++ gathered;
  wrote = wrote ∙ ap (λ (l : List ℕ). l ++ gathered) was ∙ append_assoc start out gathered;
  is = all;
}

-- or as far as the sink took it
part_out : (start before gathered made final : List ℕ) → IsOut start before gathered made
    → LeftOver before final gathered → PartOut start final made
part_out start before gathered made final (out, was, all) (part, rest, is, split) = record {
  out = out ++ part;
  wrote = is ∙ ap (λ (l : List ℕ). l ++ part) was ∙ append_assoc start out part;
  is = (rest, append_assoc out part rest ∙ ap (λ (l : List ℕ). out ++ l) split ∙ all);
}

whole_start : (out all : List ℕ) → out ≡ all → IsStart out all
whole_start out all is = ([], append-nil out ∙ is)

-- where nothing is gathered
out_so_far : (start written made : List ℕ) → IsOut start written [] made → WholeOut start written made
out_so_far start written made (out, was, all) = record { out = out; wrote = was; is = sym (append-nil out) ∙ all }

start_of_whole : (start final all : List ℕ) → WholeOut start final all → PartOut start final all
start_of_whole start final all o = as_output start final (λ out is. whole_start out all is) o

more_start : (out all more : List ℕ) → IsStart out all → IsStart out (all ++ more)
more_start out all more (rest, whole) = (
  rest ++ more,
  sym (append_assoc out rest more) ∙ ap (λ (l : List ℕ). l ++ more) whole,
)

-- a first part of the first of two texts is one of both
start_of_more : (start final all more : List ℕ) → PartOut start final all → PartOut start final (all ++ more)
start_of_more start final all more o = as_output start final (λ out is. more_start out all more is) o

sends_on : (start made text : List ℕ) (old mid : Outgoing) → IsOut start old.written old.gathered made
    → Sends old text mid → IsOut start mid.written mid.gathered (made ++ text)
sends_on start made text old mid (out, was, all) s = (
  out ++ s.out,
  s.wrote ∙ ap (λ (l : List ℕ). l ++ s.out) was ∙ append_assoc start out s.out,
  append_assoc out s.out mid.gathered ∙ ap (λ (l : List ℕ). out ++ l) s.all
      ∙ sym (append_assoc out old.gathered text) ∙ ap (λ (l : List ℕ). l ++ text) all,
)

stops_so : (start made text : List ℕ) (old mid : Outgoing) → IsOut start old.written old.gathered made
    → Stops old text mid → PartOut start mid.written (made ++ text)
stops_so start made text old mid (out, was, all) s = record {
  out = out ++ s.out;
  wrote = s.wrote ∙ ap (λ (l : List ℕ). l ++ s.out) was ∙ append_assoc start out s.out;
  is = (
    s.lost,
    append_assoc out s.out s.lost ∙ ap (λ (l : List ℕ). out ++ l) s.start
        ∙ sym (append_assoc out old.gathered text) ∙ ap (λ (l : List ℕ). l ++ text) all,
  );
}

-- what was gathered before memory ran out, as if it were the text
loses_on : (start made text : List ℕ) (old mid : Outgoing) → IsOut start old.written old.gathered made
    → (l : Loses old text mid)
    → (some : List ℕ) × IsOut start mid.written mid.gathered some × (some ++ l.lost ≡ made ++ text)
loses_on start made text old mid (out, was, all) l = (
  (out ++ l.out) ++ mid.gathered,
  (
    out ++ l.out,
    l.wrote ∙ ap (λ (w : List ℕ). w ++ l.out) was ∙ append_assoc start out l.out,
    refl,
  ),
  ap (λ (w : List ℕ). w ++ l.lost) (append_assoc out l.out mid.gathered)
      ∙ append_assoc out (l.out ++ mid.gathered) l.lost ∙ ap (λ (w : List ℕ). out ++ w) l.start
      ∙ sym (append_assoc out old.gathered text) ∙ ap (λ (w : List ℕ). w ++ text) all,
)

loses_so : (start made text final : List ℕ) (old mid : Outgoing) → IsOut start old.written old.gathered made
    → Loses old text mid
    → Wrote mid.written final mid.gathered ⊎ LeftOver mid.written final mid.gathered
    → PartOut start final (made ++ text)
loses_so start made text final old mid is l closed =
    let (some, lost_out, whole) = loses_on start made text old mid is l in
    subst (λ (all : List ℕ). PartOut start final all) whole
    (start_of_more start final some l.lost
    (elim closed [
      | inl wrote ↦ start_of_whole start final some
          (whole_out start mid.written mid.gathered some final lost_out wrote)
      | inr failed ↦ part_out start mid.written mid.gathered some final lost_out failed
    ]))

-- ---- behind a request

-- the input, where one more request was taken off its front
pub reads_on : (input read rest text more left : List ℕ) → input ≡ (read ++ rest) ++ left
    → rest ≡ text ++ more → input ≡ ((read ++ text) ++ more) ++ left
reads_on input read rest text more left took stands =
    took ∙ ap (λ (r : List ℕ). (read ++ r) ++ left) stands
    ∙ ap (λ (l : List ℕ). l ++ left) (sym (append_assoc read text more))

-- A request was read and served.
pub record Asked (request : Request) (before after : Stream) : Type 0 where
  pub stands : StandsIn before.rest request after.rest
  pub offset : after.offset ≡ before.offset + length (request_text request)
  pub within : taken after ≤ before.most

-- where the input stands then
asked_offset : (request : Request) (before after : Stream) (x : Request) (read : List ℕ)
    → Asked request before after → x ≡ request → before.offset ≡ length read
    → after.offset ≡ length (read ++ request_text x)
asked_offset request before after x read a is offset =
    omega (
      arith,
      a.offset,
      offset,
      ap (λ (r : Request). length (request_text r)) is,
      length-append read (request_text x),
    )

asked_took : (request : Request) (before after : Stream) (x : Request) (input read left : List ℕ)
    → Asked request before after → x ≡ request → input ≡ (read ++ before.rest) ++ left
    → input ≡ ((read ++ request_text x) ++ after.rest) ++ left
asked_took request before after x input read left a is took =
    reads_on input read before.rest (request_text x) after.rest left took
    (a.stands.whole ∙ ap (λ (r : Request). request_text r ++ after.rest) (sym is))

asked_reads : (end : SessionEnd) (request : Request) (before after : Stream) (x : Request)
    (input read left : List ℕ)
    → Asked request before after → x ≡ request → before.offset ≡ length read
    → input ≡ (read ++ before.rest) ++ left
    → EndsReading before.most end (length (read ++ request_text x)) after.rest left
    → Reads before.most end (read ++ request_text x) input left
asked_reads end request before after x input read left a is offset took ends =
    reads_so before.most end (read ++ request_text x) after.rest input left
    (asked_took request before after x input read left a is took)
    (omega (arith, asked_offset request before after x read a is offset, a.within)) ends

pub comes_on : (disk : Bool) (tells : Telling) (old new : SessionState) (left : List ℕ) (request : Request)
    (before after : Stream)
    → Serves (tells_of disk tells.sink tells.clock) request Next old new → Asked request before after
    → (IsTrue disk → KeepsPast old.store.files.told new.store.files.told)
    → ComesOn disk tells (side_of old left) before old.out.gathered (side_of new left) after new.out.gathered
comes_on disk tells old new left request before after serves asked past =
    λ start o h first a.
    let s = serves o a.served.h2 a.served.tried a.served.follows in
    record {
      read = a.read ++ request_text s.x.request;
      made = a.made ++ flat_map reply_text s.x.replies;
      served = more_served disk tells start old new left a.read a.made o h first request Next a.served s
          s.is.0 s.is.1 past;
      offset = asked_offset request before after s.x.request a.read asked s.asked a.offset;
      took = λ t. asked_took request before after s.x.request start.left a.read left asked s.asked (a.took t);
      wrote = λ t. sends_on start.written a.made (flat_map reply_text s.x.replies) old.out new.out (a.wrote t)
          (s.writes t);
    }

-- The session ends with the exchange of a request.
quits : (disk : Bool) (tells : Telling) (old new : SessionState) (left final : List ℕ) (request : Request)
    (before after : Stream) (end : SessionEnd)
    → Serves (tells_of disk tells.sink tells.clock) request Quit old new → Asked request before after
    → (IsTrue disk → KeepsPast old.store.files.told new.store.files.told)
    → WritesLast quit_end end tells.sink new.out.written final new.out.gathered
    → ComesToEnd disk tells (side_of old left) before old.out.gathered
    (sides_of new.store left final new.moments) end
quits disk tells old new left final request before after end serves asked past (inl closed) =
    λ start o h first a.
    let s = serves o a.served.h2 a.served.tried a.served.follows in
    let text = flat_map reply_text s.x.replies in
    subst (λ (e : SessionEnd). IsHeld disk tells before.most start (sides_of new.store left final new.moments)
    e o h first) (sym closed.0)
    (within disk tells before.most start old new left final a.read a.made o h first request Quit quit_end
    a.served s (inl s.is) s.is past tt
    (λ t. asked_reads quit_end request before after s.x.request start.left a.read left asked s.asked
    a.offset (a.took t) tt)
    (λ t. whole_out start.written new.out.written new.out.gathered (a.made ++ text) final
    (sends_on start.written a.made text old.out new.out (a.wrote t) (s.writes t)) (closed.1 t)))
quits disk tells old new left final request before after end serves asked past (inr failed) =
    λ start o h first a.
    let s = serves o a.served.h2 a.served.tried a.served.follows in
    let text = flat_map reply_text s.x.replies in
    subst (λ (e : SessionEnd). IsHeld disk tells before.most start (sides_of new.store left final new.moments)
    e o h first) (sym failed.0)
    (within disk tells before.most start old new left final a.read a.made o h first request Quit sink_end
    a.served s (inl s.is) (inl s.is) past tt
    (λ t. asked_reads sink_end request before after s.x.request start.left a.read left asked s.asked
    a.offset (a.took t) tt)
    (λ t. as_output start.written final (λ out part. inl part)
    (part_out start.written new.out.written new.out.gathered (a.made ++ text) final
    (sends_on start.written a.made text old.out new.out (a.wrote t) (s.writes t)) (failed.1 t))))

-- an end that may come within an exchange
pub record Breaking (tells : Telling) (most : ℕ) (end : SessionEnd) : Type 0 where
  pub none : (c : Context) (p : Point) → IsLast c p end None
  pub some : (c : Context) (p : Point) (x : Exchange) → IsQuit c p x ⊎ IsCut c p x → IsLast c p end (Some x)
  pub at : (n : ℕ) → IsAt end n
  pub reading : (n : ℕ) (part left : List ℕ) → EndsReading most end n part left
  pub writes : (t : Traffic) (between : Bool) (requests replies : List ℕ) → IsStart t.output replies
      → Writes tells most end t between requests replies

by_sink : (tells : Telling) (most : ℕ) → Breaking tells most sink_end
by_sink tells most = record {
  none = λ c p. tt;
  some = λ c p x e. e;
  at = λ n. tt;
  reading = λ n part left. tt;
  writes = λ t between requests replies part. inl part;
}

by_memory : (tells : Telling) (most : ℕ) → Breaking tells most memory_end
by_memory tells most = record {
  none = λ c p. tt;
  some = λ c p x e. e;
  at = λ n. tt;
  reading = λ n part left. tt;
  writes = λ t between requests replies part. part;
}

breaks : (disk : Bool) (tells : Telling) (start : Sides) (old new : SessionState) (left final : List ℕ)
    (o : Opening) (h : List Step) (first : List Write) (request : Request) (onward : Onward)
    (before after : Stream) (end : SessionEnd)
    → (a : HasCome disk tells start (side_of old left) before old.out.gathered o h first)
    → (s : Served (tells_of disk tells.sink tells.clock) request onward old new o a.served.h2 a.served.tried)
    → (IsExchange (own_context o) (point_of o a.served.h2) s.x × (is_quit s.x.request ≡ false))
    ⊎ (IsQuit (own_context o) (point_of o a.served.h2) s.x ⊎ IsCut (own_context o) (point_of o a.served.h2) s.x)
    → Asked request before after
    → (IsTrue disk → KeepsPast old.store.files.told new.store.files.told)
    → Breaking tells before.most end
    → (IsTrue tells.sink → PartOut start.written final (a.made ++ flat_map reply_text s.x.replies))
    → IsHeld disk tells before.most start (sides_of new.store left final new.moments) end o h first
breaks disk tells start old new left final o h first request onward before after end a s (inl whole) asked past
    b part =
    let read = a.read ++ request_text s.x.request in
    between disk tells before.most start (sides_of new.store left final new.moments) read
    (a.made ++ flat_map reply_text s.x.replies) o h first end
    (more_served disk tells start old new left a.read a.made o h first request onward a.served s
    whole.0 whole.1 past)
    b.none (b.at (length read))
    (λ t. asked_reads end request before after s.x.request start.left a.read left asked s.asked
    a.offset (a.took t) (b.reading (length read) after.rest left))
    (λ t. as_output start.written final (λ out some. b.writes
    (traffic start (sides_of new.store left final new.moments) out) true read
    (a.made ++ flat_map reply_text s.x.replies) some) (part t))
breaks disk tells start old new left final o h first request onward before after end a s (inr cut) asked past
    b part =
    let read = a.read ++ request_text s.x.request in
    within disk tells before.most start old new left final a.read a.made o h first request onward end
    a.served s cut (b.some (own_context o) (point_of o a.served.h2) s.x cut) past (b.at (length read))
    (λ t. asked_reads end request before after s.x.request start.left a.read left asked s.asked
    a.offset (a.took t) (b.reading (length read) after.rest left))
    (λ t. as_output start.written final (λ out some. b.writes
    (traffic start (sides_of new.store left final new.moments) out) false read
    (a.made ++ flat_map reply_text s.x.replies) some) (part t))

breaks_off : (disk : Bool) (tells : Telling) (old new : SessionState) (left : List ℕ) (request : Request)
    (before after : Stream)
    → Serves (tells_of disk tells.sink tells.clock) request Sink old new → Asked request before after
    → (IsTrue disk → KeepsPast old.store.files.told new.store.files.told)
    → ComesToEnd disk tells (side_of old left) before old.out.gathered (side_of new left) sink_end
breaks_off disk tells old new left request before after serves asked past =
    λ start o h first a.
    let s = serves o a.served.h2 a.served.tried a.served.follows in
    breaks disk tells start old new left new.out.written o h first request Sink before after sink_end a s s.is
    asked past (by_sink tells before.most)
    (λ t. stops_so start.written a.made (flat_map reply_text s.x.replies) old.out new.out (a.wrote t) (s.writes t))

gives_up : (disk : Bool) (tells : Telling) (old new : SessionState) (left final : List ℕ) (request : Request)
    (before after : Stream) (end : SessionEnd)
    → Serves (tells_of disk tells.sink tells.clock) request Memory old new → Asked request before after
    → (IsTrue disk → KeepsPast old.store.files.told new.store.files.told)
    → WritesLast memory_end end tells.sink new.out.written final new.out.gathered
    → ComesToEnd disk tells (side_of old left) before old.out.gathered
    (sides_of new.store left final new.moments) end
gives_up disk tells old new left final request before after end serves asked past (inl closed) =
    λ start o h first a.
    let s = serves o a.served.h2 a.served.tried a.served.follows in
    subst (λ (e : SessionEnd). IsHeld disk tells before.most start (sides_of new.store left final new.moments)
    e o h first) (sym closed.0)
    (breaks disk tells start old new left final o h first request Memory before after memory_end a s s.is
    asked past (by_memory tells before.most)
    (λ t. loses_so start.written a.made (flat_map reply_text s.x.replies) final old.out new.out (a.wrote t)
    (s.writes t) (inl (closed.1 t))))
gives_up disk tells old new left final request before after end serves asked past (inr failed) =
    λ start o h first a.
    let s = serves o a.served.h2 a.served.tried a.served.follows in
    subst (λ (e : SessionEnd). IsHeld disk tells before.most start (sides_of new.store left final new.moments)
    e o h first) (sym failed.0)
    (breaks disk tells start old new left final o h first request Memory before after sink_end a s s.is
    asked past (by_sink tells before.most)
    (λ t. loses_so start.written a.made (flat_map reply_text s.x.replies) final old.out new.out (a.wrote t)
    (s.writes t) (inr (failed.1 t))))

-- how a session goes on behind a request
pub asks : (onward : Onward) (r : Option SessionEnd) (disk : Bool) (tells : Telling) (old new : SessionState)
    (out : Outgoing) (left : List ℕ) (request : Request) (before after : Stream)
    → Serves (tells_of disk tells.sink tells.clock) request onward old new
    → StandsIn before.rest request after.rest
    → after.offset ≡ before.offset + length (request_text request) → taken after ≤ before.most
    → (IsTrue disk → KeepsPast old.store.files.told new.store.files.told)
    → WritesAfter onward r tells.sink new.out out
    → Goes r disk tells (side_of old left) before old.out.gathered
    (sides_of new.store left out.written new.moments) after out.gathered
asks Next r disk tells old new out left request before after serves stands offset most past (none, same) =
    subst (λ (e : Option SessionEnd). Goes e disk tells (side_of old left) before old.out.gathered
    (sides_of new.store left out.written new.moments) after out.gathered) (sym none)
    (subst (λ (w : Outgoing). ComesOn disk tells (side_of old left) before old.out.gathered
    (sides_of new.store left w.written new.moments) after w.gathered) (sym same)
    (comes_on disk tells old new left request before after serves
    (record { stands = stands; offset = offset; within = most }) past))
asks Quit r disk tells old new out left request before after serves stands offset most past (end, is, closed) =
    subst (λ (e : Option SessionEnd). Goes e disk tells (side_of old left) before old.out.gathered
    (sides_of new.store left out.written new.moments) after out.gathered) (sym is)
    (quits disk tells old new left out.written request before after end serves
    (record { stands = stands; offset = offset; within = most }) past closed)
asks Sink r disk tells old new out left request before after serves stands offset most past (is, same) =
    subst (λ (e : Option SessionEnd). Goes e disk tells (side_of old left) before old.out.gathered
    (sides_of new.store left out.written new.moments) after out.gathered) (sym is)
    (subst (λ (w : Outgoing). ComesToEnd disk tells (side_of old left) before old.out.gathered
    (sides_of new.store left w.written new.moments) sink_end) (sym same)
    (breaks_off disk tells old new left request before after serves
    (record { stands = stands; offset = offset; within = most }) past))
asks Memory r disk tells old new out left request before after serves stands offset most past (end, is, closed) =
    subst (λ (e : Option SessionEnd). Goes e disk tells (side_of old left) before old.out.gathered
    (sides_of new.store left out.written new.moments) after out.gathered) (sym is)
    (gives_up disk tells old new left out.written request before after end serves
    (record { stands = stands; offset = offset; within = most }) past closed)

-- ---- between two requests

-- no exchange yet
served_none : (disk ticking : Bool) (start : Sides) (o : Opening) (h : List Step) (first : List Write)
    → Follows disk start.store o h first → HasServed disk ticking start.store start.moments start.store start.moments [] [] o h first
served_none disk ticking start o h first follows = record {
  xs = [];
  h2 = h;
  tried = first;
  so_far = nothing_yet (own_context o) ticking h start.moments;
  own = tt;
  tries = inr (inl (refl, refl));
  follows = follows;
  crash = λ t k low high. absurd (omega (arith, low, high));
}

-- how far a session has come before its first request
pub nothing_come : (disk : Bool) (tells : Telling) (start : Sides) (stream : Stream) (o : Opening)
    (h : List Step) (first : List Write) → stream.rest ≡ [] → stream.offset ≡ 0
    → Follows disk start.store o h first → HasCome disk tells start start stream [] o h first
nothing_come disk tells start stream o h first empty none follows = record {
  read = [];
  made = [];
  served = served_none disk tells.clock start o h first follows;
  offset = none;
  took = λ t. ap (λ (l : List ℕ). l ++ start.left) (sym empty);
  wrote = λ t. ([], sym (append-nil start.written), refl);
}

-- the sides, with other streams
abbrev pub with_streams : Sides → List ℕ → List ℕ → Sides
with_streams s left written = sides_of s.store left written s.moments

-- what was gathered went out
pub empties : (disk : Bool) (tells : Telling) (start now : Sides) (stream : Stream) (gathered written : List ℕ)
    (o : Opening) (h : List Step) (first : List Write)
    → HasCome disk tells start now stream gathered o h first
    → (IsTrue tells.sink → Wrote now.written written gathered)
    → HasCome disk tells start (with_streams now now.left written) stream [] o h first
empties disk tells start now stream gathered written o h first a wrote = record {
  read = a.read;
  made = a.made;
  served = a.served;
  offset = a.offset;
  took = a.took;
  wrote = λ t. let w = whole_out start.written now.written gathered a.made written (a.wrote t) (wrote t) in
      (w.out, w.wrote, append-nil w.out ∙ w.is);
}

-- the source has the same to give
pub stays : (disk : Bool) (tells : Telling) (start now : Sides) (stream : Stream) (gathered left : List ℕ)
    (o : Opening) (h : List Step) (first : List Write)
    → HasCome disk tells start now stream gathered o h first → (IsTrue tells.source → left ≡ now.left)
    → HasCome disk tells start (with_streams now left now.written) stream gathered o h first
stays disk tells start now stream gathered left o h first a same = record {
  read = a.read;
  made = a.made;
  served = a.served;
  offset = a.offset;
  took = λ t. a.took t ∙ ap (λ (l : List ℕ). (a.read ++ stream.rest) ++ l) (sym (same t));
  wrote = a.wrote;
}

-- one more piece of the input was taken
pub takes : (disk : Bool) (tells : Telling) (start now : Sides) (old new : Stream) (gathered left : List ℕ)
    (o : Opening) (h : List Step) (first : List Write)
    → HasCome disk tells start now old gathered o h first
    → TakesPiece tells.source old new now.left left
    → HasCome disk tells start (with_streams now left now.written) new gathered o h first
takes disk tells start now old new gathered left o h first a took = record {
  read = a.read;
  made = a.made;
  served = a.served;
  offset = took.offset ∙ a.offset;
  took = λ t. a.took t ∙ ap (λ (l : List ℕ). (a.read ++ old.rest) ++ l) (took.bytes t)
      ∙ sym (append_assoc (a.read ++ old.rest) took.piece left)
      ∙ ap (λ (l : List ℕ). l ++ left)
      (append_assoc a.read old.rest took.piece ∙ ap (λ (r : List ℕ). a.read ++ r) (sym took.rest));
  wrote = a.wrote;
}

-- ---- ends between two requests

-- an end at which all replies were written
pub record Closing (tells : Telling) (most : ℕ) (end : SessionEnd) : Type 0 where
  pub none : (c : Context) (p : Point) → IsLast c p end None
  pub at : (n : ℕ) → IsAt end n
  pub writes : (t : Traffic) (between : Bool) (requests replies : List ℕ) → t.output ≡ replies
      → Writes tells most end t between requests replies

pub at_end : (tells : Telling) (most : ℕ) → Closing tells most input_end
at_end tells most = record { none = λ c p. tt; at = λ n. tt; writes = λ t b r p is. is }

pub at_source : (tells : Telling) (most : ℕ) → Closing tells most source_end
at_source tells most = record { none = λ c p. tt; at = λ n. tt; writes = λ t b r p is. is }

pub at_long : (tells : Telling) (most : ℕ) → Closing tells most long_end
at_long tells most = record { none = λ c p. tt; at = λ n. tt; writes = λ t b r p is. is }

at_memory : (tells : Telling) (most : ℕ) → Closing tells most memory_end
at_memory tells most = record {
  none = λ c p. tt;
  at = λ n. tt;
  writes = λ t b r p is. whole_start t.output p is;
}

-- the session ends, all replies being written
pub ends : (disk : Bool) (tells : Telling) (most : ℕ) (start now : Sides) (stream : Stream)
    (o : Opening) (h : List Step) (first : List Write) (end : SessionEnd)
    → HasCome disk tells start now stream [] o h first → taken stream ≤ most → Closing tells most end
    → (IsTrue tells.source → EndsReading most end stream.offset stream.rest now.left)
    → IsHeld disk tells most start now end o h first
ends disk tells most start now stream o h first end a few b reading =
    between disk tells most start now a.read a.made o h first end a.served b.none (b.at (length a.read))
    (λ t. reads_so most end a.read stream.rest start.left now.left (a.took t)
    (omega (arith, few, a.offset))
    (subst (λ (n : ℕ). EndsReading most end n stream.rest now.left) a.offset (reading t)))
    (λ t. as_output start.written now.written
    (λ out is. b.writes (traffic start now out) true a.read a.made is)
    (out_so_far start.written now.written a.made (a.wrote t)))

-- there was no memory for a piece that was read
pub loses : (disk : Bool) (tells : Telling) (most : ℕ) (start now : Sides) (stream : Stream) (left : List ℕ)
    (o : Opening) (h : List Step) (first : List Write)
    → HasCome disk tells start now stream [] o h first → stream.most ≡ most
    → LosesPiece tells.source stream now.left left
    → IsHeld disk tells most start (with_streams now left now.written) memory_end o h first
loses disk tells most start now stream left o h first a is lost =
    between disk tells most start (with_streams now left now.written) a.read a.made o h first memory_end a.served
    (λ c p. tt) tt
    (λ t. reads_so most memory_end a.read (stream.rest ++ lost.piece) start.left left
    (a.took t ∙ ap (λ (l : List ℕ). (a.read ++ stream.rest) ++ l) (lost.bytes t)
    ∙ sym (append_assoc (a.read ++ stream.rest) lost.piece left)
    ∙ ap (λ (l : List ℕ). l ++ left) (append_assoc a.read stream.rest lost.piece))
    (omega (arith, lost.within, is, a.offset, length-append stream.rest lost.piece)) tt)
    (λ t. start_of_whole start.written now.written a.made
    (out_so_far start.written now.written a.made (a.wrote t)))

-- the sink failed
pub fails : (disk : Bool) (tells : Telling) (most : ℕ) (start now : Sides) (stream : Stream)
    (gathered final : List ℕ) (o : Opening) (h : List Step) (first : List Write)
    → HasCome disk tells start now stream gathered o h first → taken stream ≤ most
    → (IsTrue tells.sink → LeftOver now.written final gathered)
    → IsHeld disk tells most start (with_streams now now.left final) sink_end o h first
fails disk tells most start now stream gathered final o h first a few failed =
    between disk tells most start (with_streams now now.left final) a.read a.made o h first sink_end a.served
    (λ c p. tt) tt
    (λ t. reads_so most sink_end a.read stream.rest start.left now.left (a.took t)
    (omega (arith, few, a.offset)) tt)
    (λ t. as_output start.written final (λ out part. inl part)
    (part_out start.written now.written gathered a.made final (a.wrote t) (failed t)))

-- There was no memory for the next request, or for a line.
pub lacks : (disk : Bool) (tells : Telling) (most : ℕ) (start now : Sides) (stream : Stream)
    (gathered final : List ℕ) (o : Opening) (h : List Step) (first : List Write)
    → HasCome disk tells start now stream gathered o h first → taken stream ≤ most
    → (IsTrue tells.sink → Wrote now.written final gathered)
    → IsHeld disk tells most start (with_streams now now.left final) memory_end o h first
lacks disk tells most start now stream gathered final o h first a few wrote =
    ends disk tells most start (with_streams now now.left final) stream o h first memory_end
    (empties disk tells start now stream gathered final o h first a wrote) few (at_memory tells most) (λ t. tt)

pub closes_for_memory : (end : SessionEnd) (disk : Bool) (tells : Telling) (now : Sides) (stream : Stream)
    (gathered final : List ℕ) → taken stream ≤ stream.most
    → WritesLast memory_end end tells.sink now.written final gathered
    → ComesToEnd disk tells now stream gathered (with_streams now now.left final) end
closes_for_memory end disk tells now stream gathered final few (inl closed) =
    λ start o h first a.
    subst (λ (e : SessionEnd). IsHeld disk tells stream.most start (with_streams now now.left final) e o h first)
    (sym closed.0) (lacks disk tells stream.most start now stream gathered final o h first a few closed.1)
closes_for_memory end disk tells now stream gathered final few (inr failed) =
    λ start o h first a.
    subst (λ (e : SessionEnd). IsHeld disk tells stream.most start (with_streams now now.left final) e o h first)
    (sym failed.0) (fails disk tells stream.most start now stream gathered final o h first a few failed.1)

-- ---- SYNTAX

-- the line behind what was gathered
with_syntax : (start written gathered made : List ℕ) (offset : ℕ) → IsOut start written gathered made
    → IsOut start written (gathered ++ syntax_text offset) (made ++ syntax_text offset)
with_syntax start written gathered made offset (out, was, all) = (
  out,
  was,
  sym (append_assoc out gathered (syntax_text offset)) ∙ ap (λ (l : List ℕ). l ++ syntax_text offset) all,
)

-- no request stands at the front of what was taken
pub says_syntax : (disk : Bool) (tells : Telling) (now : Sides) (stream : Stream)
    (gathered final : List ℕ) (offset : ℕ) (end : SessionEnd)
    (start : Sides) (o : Opening) (h : List Step) (first : List Write)
    → HasCome disk tells start now stream gathered o h first → taken stream ≤ stream.most
    → offset ≡ stream.offset
    → (IsTrue tells.source → IsSyntax stream.most stream.offset stream.rest now.left)
    → WritesSyntax offset end tells.sink now.written final gathered
    → IsHeld disk tells stream.most start (with_streams now now.left final) end o h first
says_syntax disk tells now stream gathered final offset end start o h first a few at syntax (inl (inl closed)) =
    let here : offset ≡ length a.read = at ∙ a.offset in
    let last : Sides = with_streams now now.left final in
    subst (λ (e : SessionEnd). IsHeld disk tells stream.most start last e o h first) (sym closed.0)
    (between disk tells stream.most start last a.read a.made o h first (Syntax offset) a.served
    (λ c p. tt) here
    (λ t. reads_so stream.most (Syntax offset) a.read stream.rest start.left now.left (a.took t)
    (omega (arith, few, a.offset))
    (subst (λ (n : ℕ). IsSyntax stream.most n stream.rest now.left) a.offset (syntax t)))
    (λ t. whole_out start.written now.written (gathered ++ syntax_text offset)
    (a.made ++ syntax_text offset) final
    (with_syntax start.written now.written gathered a.made offset (a.wrote t)) (closed.1 t)))
says_syntax disk tells now stream gathered final offset end start o h first a few at syntax (inl (inr failed)) =
    let here : offset ≡ length a.read = at ∙ a.offset in
    let last : Sides = with_streams now now.left final in
    subst (λ (e : SessionEnd). IsHeld disk tells stream.most start last e o h first) (sym failed.0)
    (between disk tells stream.most start last a.read a.made o h first sink_end a.served (λ c p. tt) tt
    (λ t. reads_so stream.most sink_end a.read stream.rest start.left now.left (a.took t)
    (omega (arith, few, a.offset)) tt)
    (λ t. as_output start.written final
    (λ out part. inr (
      record {
        is_between = refl;
        seen = λ told. (
          stream.rest,
          a.took told,
          subst (λ (n : ℕ). IsSyntax stream.most n stream.rest now.left) a.offset (syntax told),
        );
      },
      subst (λ (n : ℕ). IsStart out (a.made ++ syntax_text n)) here part,
    ))
    (part_out start.written now.written (gathered ++ syntax_text offset) (a.made ++ syntax_text offset) final
    (with_syntax start.written now.written gathered a.made offset (a.wrote t)) (failed.1 t))))
says_syntax disk tells now stream gathered final offset end start o h first a few at syntax (inr lacking) =
    subst (λ (e : SessionEnd). IsHeld disk tells stream.most start (with_streams now now.left final) e o h first)
    (sym lacking.0) (lacks disk tells stream.most start now stream gathered final o h first a few lacking.1)

-- bytes that go on to no request aren't none
some_bad : (part : List ℕ) → IsBad part → 0 < length part
some_bad (x ∷ xs) bad = omega arith
some_bad [] bad = absurd (bad (request_text sync_request) sync_request []
    (record { fits = tt; whole = sym (append-nil (request_text sync_request)) }))

pub bad_syntax : (most offset : ℕ) (part left : List ℕ) → IsBad part → IsSyntax most offset part left
bad_syntax most offset part left bad = record { some = some_bad part bad; none = bad left; seen = inl bad }

-- the input ended within a request
pub cut_syntax : (most offset : ℕ) (part left : List ℕ) → 0 < length part → IsPartial part → left ≡ []
    → offset + length part < most → IsSyntax most offset part left
cut_syntax most offset part left some partial none few = record {
  some = some;
  none = subst NoneStands (sym (ap (λ (l : List ℕ). part ++ l) none ∙ append-nil part))
      (none_in_partial part partial);
  seen = inr (none, few);
}

-- ---- the work that is left

pub fewer_asked : (request : Request) (before after : Stream) → StandsIn before.rest request after.rest
    → after.offset ≡ before.offset + length (request_text request) → after.most ≡ before.most
    → taken after ≤ after.most → work_left after < work_left before
fewer_asked request before after stands offset most few =
    omega (
      arith,
      offset,
      most,
      few,
      ap length stands.whole,
      length-append (request_text request) after.rest,
      some_text request,
    )

pub fewer_taken : (tells : Bool) (before after : Stream) (left later : List ℕ)
    → TakesPiece tells before after left later → after.most ≡ before.most
    → taken after ≤ after.most → work_left after < work_left before
fewer_taken tells before after left later took most few =
    omega (arith, took.offset, most, few, took.some, ap length took.rest, length-append before.rest took.piece)

-- ---- where a session reads on

-- nothing is gathered
none_gathered : (disk : Bool) (tells : Telling) (start now : Sides) (stream : Stream) (gathered : List ℕ)
    (o : Opening) (h : List Step) (first : List Write) → gathered ≡ []
    → HasCome disk tells start now stream gathered o h first → HasCome disk tells start now stream [] o h first
none_gathered disk tells start now stream gathered o h first none a =
    subst (λ (l : List ℕ). HasCome disk tells start now stream l o h first) none a

pub taken_more : (disk : Bool) (tells : Telling) (now : Sides) (old new : Stream) (gathered left : List ℕ)
    → TakesPiece tells.source old new now.left left
    → ComesOn disk tells now old gathered (with_streams now left now.written) new gathered
taken_more disk tells now old new gathered left took =
    λ start o h first a. takes disk tells start now old new gathered left o h first a took

-- the input has ended
pub ended_whole : (disk : Bool) (tells : Telling) (now : Sides) (old new : Stream) (gathered later : List ℕ)
    → gathered ≡ []
    → (new ≡ old) × (taken old < old.most) × (IsTrue tells.source → (now.left ≡ []) × (later ≡ []))
    → new.rest ≡ []
    → ComesToEnd disk tells now old gathered (with_streams now later now.written) input_end
ended_whole disk tells now old new gathered later none (same, few, ended) empty =
    λ start o h first a.
    let rest : old.rest ≡ [] = ap (λ (s : Stream). s.rest) (sym same) ∙ empty in
    ends disk tells old.most start (with_streams now later now.written) old o h first input_end
    (stays disk tells start now old [] later o h first
    (none_gathered disk tells start now old gathered o h first none a)
    (λ t. (ended t).1 ∙ sym (ended t).0))
    (omega (arith, few)) (at_end tells old.most)
    (λ t. (rest, (ended t).1, omega (arith, few)))

pub ended_within : (disk : Bool) (tells : Telling) (now : Sides) (old new : Stream)
    (gathered later final : List ℕ) (offset : ℕ) (end : SessionEnd)
    → gathered ≡ []
    → (new ≡ old) × (taken old < old.most) × (IsTrue tells.source → (now.left ≡ []) × (later ≡ []))
    → IsPartial old.rest → (offset ≡ new.offset) × (0 < length new.rest)
    → WritesSyntax offset end tells.sink now.written final gathered
    → ComesToEnd disk tells now old gathered (with_streams now later final) end
ended_within disk tells now old new gathered later final offset end none (same, few, ended) partial some closed =
    λ start o h first a.
    says_syntax disk tells (with_streams now later now.written) old gathered final offset end start o h first
    (stays disk tells start now old gathered later o h first a (λ t. (ended t).1 ∙ sym (ended t).0))
    (omega (arith, few)) (some.0 ∙ ap (λ (s : Stream). s.offset) same)
    (λ t. cut_syntax old.most old.offset old.rest later
    (subst (λ (s : Stream). 0 < length s.rest) same some.1) partial (ended t).1 few) closed

pub taken_all : (disk : Bool) (tells : Telling) (now : Sides) (old new : Stream) (gathered later : List ℕ)
    → gathered ≡ []
    → (new ≡ old) × (taken old ≡ old.most) × (IsTrue tells.source → later ≡ now.left)
    → IsPartial old.rest
    → ComesToEnd disk tells now old gathered (with_streams now later now.written) long_end
taken_all disk tells now old new gathered later none (same, all, left) partial =
    λ start o h first a.
    ends disk tells old.most start (with_streams now later now.written) old o h first long_end
    (stays disk tells start now old [] later o h first
    (none_gathered disk tells start now old gathered o h first none a) left)
    (omega (arith, all)) (at_long tells old.most) (λ t. (partial, all))

pub failed_source : (disk : Bool) (tells : Telling) (now : Sides) (old new : Stream)
    (gathered later : List ℕ) → gathered ≡ []
    → (new ≡ old) × (taken old < old.most) × (IsTrue tells.source → later ≡ now.left)
    → IsPartial old.rest
    → ComesToEnd disk tells now old gathered (with_streams now later now.written) source_end
failed_source disk tells now old new gathered later none (same, few, left) partial =
    λ start o h first a.
    ends disk tells old.most start (with_streams now later now.written) old o h first source_end
    (stays disk tells start now old [] later o h first
    (none_gathered disk tells start now old gathered o h first none a) left)
    (omega (arith, few)) (at_source tells old.most) (λ t. (partial, few))

pub lost_piece : (disk : Bool) (tells : Telling) (now : Sides) (old : Stream)
    (gathered later : List ℕ) → gathered ≡ [] → LosesPiece tells.source old now.left later
    → ComesToEnd disk tells now old gathered (with_streams now later now.written) memory_end
lost_piece disk tells now old gathered later none lost =
    λ start o h first a. loses disk tells old.most start now old later o h first
    (none_gathered disk tells start now old gathered o h first none a) refl lost

-- what goes on behind a flush, goes on from before it
pub flushed : (r : Option SessionEnd) (disk : Bool) (tells : Telling) (now new : Sides) (stream later : Stream)
    (gathered written empty more : List ℕ) → empty ≡ []
    → (IsTrue tells.sink → Wrote now.written written gathered)
    → Goes r disk tells (with_streams now now.left written) stream empty new later more
    → Goes r disk tells now stream gathered new later more
flushed None disk tells now new stream later gathered written empty more none wrote goes =
    λ start o h first a. goes start o h first
    (subst (λ (l : List ℕ). HasCome disk tells start (with_streams now now.left written) stream l o h first)
    (sym none) (empties disk tells start now stream gathered written o h first a wrote))
flushed (Some end) disk tells now new stream later gathered written empty more none wrote goes =
    λ start o h first a. goes start o h first
    (subst (λ (l : List ℕ). HasCome disk tells start (with_streams now now.left written) stream l o h first)
    (sym none) (empties disk tells start now stream gathered written o h first a wrote))

pub sink_failed : (disk : Bool) (tells : Telling) (now : Sides) (stream : Stream)
    (gathered final : List ℕ) → taken stream ≤ stream.most
    → (IsTrue tells.sink → LeftOver now.written final gathered)
    → ComesToEnd disk tells now stream gathered (with_streams now now.left final) sink_end
sink_failed disk tells now stream gathered final few failed =
    λ start o h first a. fails disk tells stream.most start now stream gathered final o h first a few failed

-- no request stands at the front of what was taken, however it goes on
pub bad_front : (disk : Bool) (tells : Telling) (now : Sides) (stream : Stream)
    (gathered final : List ℕ) (offset : ℕ) (end : SessionEnd) → taken stream ≤ stream.most
    → IsBad stream.rest → offset ≡ stream.offset
    → WritesSyntax offset end tells.sink now.written final gathered
    → ComesToEnd disk tells now stream gathered (with_streams now now.left final) end
bad_front disk tells now stream gathered final offset end few bad at closed =
    λ start o h first a.
    says_syntax disk tells now stream gathered final offset end start o h first a few at
    (λ t. bad_syntax stream.most stream.offset stream.rest now.left bad) closed

-- there was no memory to begin with
pub no_inbox : (disk : Bool) (tells : Telling) (most : ℕ) (start : Sides) (o : Opening) (h : List Step)
    (first : List Write) → Follows disk start.store o h first
    → IsHeld disk tells most start start memory_end o h first
no_inbox disk tells most start o h first follows =
    let stream : Stream = record { rest = []; offset = 0; most = 0; held = 0 } in
    ends disk tells most start start stream o h first memory_end
    (nothing_come disk tells start stream o h first refl refl follows) (omega arith) (at_memory tells most)
    (λ t. tt)
