-- The puts of a fill: how they begin, go on and end.
use Rattle.std.proofs.Common.{◌≡◌, ◌∙◌, ℕ, ◌+◌, ◌^◌, ◌<◌, Bool, List, [], ◌∷◌, ◌++◌}
use Rattle.std.proofs.Common.{length, Some, refl, sym, ap, subst}
use Rattle.std.proofs.Common.{arith, inl, inr, IsTrue, Ok, Err}
use Rattle.std.specs.Prelude.{Result}
use Rattle.std.proofs.lemmas.List.{append-nil, length-append}
use Rattle.std.proofs.lemmas.List.Concat.{flat_map-append}
use Rattle.bk_base.specs.declared.calls.Answer.{Answer}
use Rattle.bk_base.specs.declared.calls.Answer.TheVariants.{Numbered as numbered_answer}
use Rattle.bk_base.specs.declared.calls.Call.TheVariants.{Put as put_call}
use Rattle.bk_base.specs.declared.histories.Opening.{Opening}
use Rattle.bk_base.specs.declared.histories.Step.{Step}
use Rattle.bk_base.specs.declared.limits.TheConstants.{RECORD_HEADER}
use Rattle.bk_base.specs.declared.numbers.Moment.{Moment}
use Rattle.bk_base.specs.declared.numbers.Seq.{Seq}
use Rattle.bk_base.specs.declared.requests.Reply.{Reply}
use Rattle.bk_base.specs.declared.requests.Reply.TheVariants.{Memory as memory_line, Numbered}
use Rattle.bk_base.specs.declared.writes.Body.TheVariants.{Put as put_body}
use Rattle.bk_base.specs.declared.writes.Write.{Write}
use Rattle.bk_exchange.specs.Answers.{ShowsPut}
use Rattle.bk_exchange.specs.Exchanges.{Exchange, Replies, moment_of, steps_of}
use Rattle.bk_exchange.specs.Points.{events, point_of}
use Rattle.bk_exchange.specs.Writes.{put_of, told_by, told_writes}
use Rattle.bk_fill.proofs.MadeExchanges.{entry_shown, made_more, made_nothing, made_unasked, told_on}
use Rattle.bk_fill.proofs.PairTexts.{pair_fits}
use Rattle.bk_fill.specs.Making.{AreMade}
use Rattle.bk_fill.specs.Pairs.{key_at, put_at, value_at}
use Rattle.bk_fill.specs.Putting.{AnswersPut, ArePuts, EndsPuts, HasPut, IsPut, RefusesPut}
use Rattle.bk_laws.proofs.RecordBytes.{length-record_of}
use Rattle.bk_laws.specs.Record.{record_of, records_of}
use Rattle.bk_session.specs.Following.{Follows, own_context}
use Rattle.bk_session.specs.Refusing.{line_of_put}
use Rattle.bk_session.specs.Replying.{exchange_of}
use Rattle.bk_store.specs.declared.errors.PutError.{PutError}
use Rattle.bk_store.specs.declared.errors.PutError.TheVariants.{FullSeq, FullFiles, Disk as put_disk, Memory}
use Rattle.bk_store.specs.Events.{entry_by}
use Rattle.bk_store.specs.Shown.{Shown}

-- ---- the entry of a put that was answered

shown_put : (answer : Answer) (reply : Reply) (seq : Seq) → Numbered seq ≡ reply → ShowsPut answer reply
    → answer ≡ numbered_answer seq
shown_put (numbered_answer n) (Numbered shown) seq is shows =
    let same : seq ≡ shown = cc is in
    ap numbered_answer (shows ∙ sym same)
shown_put answer reply seq is shows = absurd shows

put_entry : (o : Opening) (h : List Step) (now : Moment) (n : ℕ) (seq : Seq) (step : Step) → step.entry.caller ≡ 0
    → Replies (own_context o) (put_at n) now (events (point_of o h) (step ∷ [])) (Numbered seq ∷ [])
    → step.entry ≡ entry_by 0 (put_call (key_at n) (value_at n) now) (numbered_answer seq)
put_entry o h now n seq step caller replied =
    entry_shown o (point_of o h) (put_at n) step (put_call (key_at n) (value_at n) now) (numbered_answer seq) ShowsPut
    (Numbered seq) caller (λ a shown is shows. shown_put a shown seq is shows) (λ never. cc never) replied

-- ---- one put more

are_more : (now : Moment) (from : ℕ) (xs : List Exchange) (x : Exchange) → ArePuts now from xs
    → IsPut now (from + length xs) x → ArePuts now from (xs ++ x ∷ [])
are_more now from [] x are is = (subst (λ (n : ℕ). IsPut now n x) (omega arith) is, tt)
are_more now from (y ∷ xs) x are is =
    (are.0, are_more now (from + 1) xs x are.1 (subst (λ (n : ℕ). IsPut now n x) (omega arith) is))

-- the bytes of the records with one more
bytes_more : (xs : List Exchange) (x : Exchange) (w : Write) (len : ℕ)
    → told_by x.request (moment_of x.now) x.replies ≡ w ∷ [] → length (record_of w) ≡ len
    → length (records_of (told_writes (xs ++ x ∷ []))) ≡ length (records_of (told_writes xs)) + len
bytes_more xs x w len told is =
    ap (λ (ws : List Write). length (records_of ws))
    (told_on xs x ∙ ap (λ (ws : List Write). told_writes xs ++ ws) told)
    ∙ ap length (flat_map-append record_of (told_writes xs) (w ∷ []))
    ∙ length-append (records_of (told_writes xs)) (records_of (w ∷ []))
    ∙ ap (λ (n : ℕ). length (records_of (told_writes xs)) + n) (ap length (append-nil (record_of w)) ∙ is)

-- the exchanges of puts that were all answered
puts_made : (known : Bool) (v m : Shown) (o : Opening) (h : List Step) (first : List Write) (puts rest : List Exchange)
    → rest ≡ [] → AreMade known v m o h first (puts ++ rest) → AreMade known v m o h first puts
puts_made known v m o h first puts rest none made =
    subst (λ (xs : List Exchange). AreMade known v m o h first xs)
    (ap (λ (xs : List Exchange). puts ++ xs) none ∙ append-nil puts) made

no_more_made : (known : Bool) (v m : Shown) (o : Opening) (h : List Step) (first : List Write) (puts : List Exchange)
    → AreMade known v m o h first puts → AreMade known v m o h first (puts ++ [])
no_more_made known v m o h first puts made =
    subst (λ (xs : List Exchange). AreMade known v m o h first xs) (sym (append-nil puts)) made

pub nothing_put : (known : Bool) (now : Moment) (v : Shown) (o : Opening) (h : List Step) (first : List Write)
    → Follows known v o h first → HasPut known now 0 (Ok 0) v v o h first
nothing_put known now v o h first f = record {
  puts = [];
  rest = [];
  are = tt;
  ends = (refl, refl, refl);
  made = made_nothing known v o h first f;
}

pub put_more : (known tells : Bool) (now : Moment) (n bytes len : ℕ) (v m u : Shown) (o : Opening) (h : List Step)
    (first : List Write) → n < 2 ^ 32 → (IsTrue known → IsTrue tells) → HasPut known now n (Ok bytes) v m o h first
    → AnswersPut tells now n m u → len ≡ RECORD_HEADER + length (key_at n) + length (value_at n)
    → HasPut known now (n + 1) (Ok (bytes + len)) v u o h first
put_more known tells now n bytes len v m u o h first low sub p (seq, replies) long =
    let a = puts_made known v m o h first p.puts p.rest p.ends.1 p.made in
    let r = replies known sub o (h ++ steps_of p.puts) a.tried a.follows in
    let x = exchange_of (put_at n) (Some now) (r.step ∷ []) (Numbered seq ∷ []) in
    let w = put_of seq now (key_at n) (put_body (value_at n)) in
    let is : IsPut now n x = (
      seq,
      record {
        step = r.step;
        entry = put_entry o (h ++ steps_of p.puts) now n seq r.step r.caller r.replied;
        is = refl;
      },
    ) in
    record {
      puts = p.puts ++ x ∷ [];
      rest = [];
      are = are_more now 0 p.puts x p.are (subst (λ (k : ℕ). IsPut now k x) (omega (arith, p.ends.0)) is);
      ends = (
        length-append p.puts (x ∷ []) ∙ ap (λ (k : ℕ). k + 1) p.ends.0,
        refl,
        ap (λ (k : ℕ). k + len) p.ends.2 ∙ sym (bytes_more p.puts x w len refl (length-record_of w ∙ sym long)),
      );
      made = no_more_made known v u o h first (p.puts ++ x ∷ [])
          (made_more known v m u o h first p.puts a (put_at n) (Some now) (Numbered seq) (pair_fits n low) refl refl r);
    }

-- ---- a put that was refused

no_write : (n : ℕ) (now : Moment) (e : PutError) → told_by (put_at n) now (line_of_put e ∷ []) ≡ []
no_write n now FullSeq = refl
no_write n now FullFiles = refl
no_write n now put_disk = refl
no_write n now Memory = refl

-- the writes of all that was put are those of the puts that were answered
pub told_by_puts : (ended : Result ℕ PutError) (now : Moment) (count : ℕ) (puts rest : List Exchange)
    → EndsPuts ended now count puts rest → told_writes (puts ++ rest) ≡ told_writes puts
told_by_puts (Ok bytes) now count puts rest ends =
    ap (λ (xs : List Exchange). told_writes (puts ++ xs)) ends.1 ∙ ap told_writes (append-nil puts)
told_by_puts (Err e) now count puts rest (fewer, x, is, (steps, asked)) =
    ap (λ (xs : List Exchange). told_writes (puts ++ xs)) is
    ∙ told_on puts x
    ∙ ap (λ (y : Exchange). told_writes puts ++ told_by y.request (moment_of y.now) y.replies) asked
    ∙ ap (λ (ws : List Write). told_writes puts ++ ws) (no_write (length puts) now e)
    ∙ append-nil (told_writes puts)

pub put_stops : (known tells : Bool) (now : Moment) (n bytes count : ℕ) (e : PutError) (v m u : Shown) (o : Opening)
    (h : List Step) (first : List Write) → n < 2 ^ 32 → n < count → (IsTrue known → IsTrue tells)
    → HasPut known now n (Ok bytes) v m o h first → RefusesPut tells now n e m u
    → HasPut known now count (Err e) v u o h first
put_stops known tells now n bytes count e v m u o h first low more sub p (inl replies) =
    let a = puts_made known v m o h first p.puts p.rest p.ends.1 p.made in
    let r = replies known sub o (h ++ steps_of p.puts) a.tried a.follows in
    let x = exchange_of (put_at n) (Some now) (r.step ∷ []) (line_of_put e ∷ []) in
    record {
      puts = p.puts;
      rest = x ∷ [];
      are = p.are;
      ends = (
        omega (arith, more, p.ends.0),
        x,
        refl,
        (
          r.step ∷ [],
          ap (λ (k : ℕ). exchange_of (put_at k) (Some now) (r.step ∷ []) (line_of_put e ∷ [])) (sym p.ends.0),
        ),
      );
      made = made_more known v m u o h first p.puts a (put_at n) (Some now) (line_of_put e) (pair_fits n low) refl refl r;
    }
put_stops known tells now n bytes count e v m u o h first low more sub p (inr (memory, same)) =
    let a = puts_made known v m o h first p.puts p.rest p.ends.1 p.made in
    let x = exchange_of (put_at n) (Some now) [] (memory_line ∷ []) in
    record {
      puts = p.puts;
      rest = x ∷ [];
      are = p.are;
      ends = (
        omega (arith, more, p.ends.0),
        x,
        refl,
        (
          [],
          ap (λ (k : ℕ). exchange_of (put_at k) (Some now) [] (memory_line ∷ [])) (sym p.ends.0)
              ∙ ap (λ (f : PutError). exchange_of (put_at (length p.puts)) (Some now) [] (line_of_put f ∷ [])) (sym memory),
        ),
      );
      made = subst (λ (s : Shown). AreMade known v s o h first (p.puts ++ x ∷ [])) (sym same)
          (made_unasked known v m o h first p.puts (put_at n) (Some now) (pair_fits n low) refl refl refl refl a);
    }
