-- What the definitions refuse: an exchange without its reply, a put that was never made, DISK
-- without a fault, and a session that ends before its input does. And why one caller has to be
-- said of one thread: among many, the log gains writes that no line of this session tells.
use Rattle.std.proofs.Common.{◌≡◌, List, [], ◌∷◌, ◌++◌, None, codes}
use Rattle.std.proofs.Common.{refl, arith, inl, inr}
use Rattle.std.specs.Fmt.{digits}
use Rattle.bk_base.specs.declared.calls.Answer.TheVariants.{Done, Found}
use Rattle.bk_base.specs.declared.calls.Answer.TheVariants.{Numbered as numbered_answer}
use Rattle.bk_base.specs.declared.calls.Call.TheVariants.{Put as put_call, Quiet}
use Rattle.bk_base.specs.declared.histories.Step.{Step}
use Rattle.bk_base.specs.declared.requests.Reply.{Reply}
use Rattle.bk_base.specs.declared.requests.Reply.TheVariants.{Disk, Value}
use Rattle.bk_base.specs.declared.statuses.SessionEnd.TheVariants.{End}
use Rattle.bk_laws.specs.History.{IsLegalHistory, log_of}
use Rattle.bk_laws.specs.Wire.{reply_text, request_text}
use Rattle.bk_exchange.specs.Exchanges.{Exchange, IsExchange, requests_of, steps_of}
use Rattle.bk_exchange.specs.Listings.{row_lines}
use Rattle.bk_exchange.specs.Points.{Point, point_of}
use Rattle.bk_exchange.specs.Sessions.{Session, Traffic, exchanges}
use Rattle.bk_exchange.specs.Writes.{told_writes}
use Rattle.bk_exchange.proofs.Causes.{caused}
use Rattle.bk_exchange.proofs.EndFacts.{closed, end_read}
use Rattle.bk_exchange.proofs.OkLines.{exchange_tells}
use Rattle.bk_exchange.proofs.SessionExamples.{context, first_traffic, five, get_a, key_fits}
use Rattle.bk_exchange.proofs.SessionExamples.{one_file, opening, put_a, step, telling}

-- ---- exchanges

not_empty : (lines : List Reply) (line : Reply) → [] ≡ lines ++ line ∷ [] → ⊥
not_empty [] line is = absurd (cc is)
not_empty (first ∷ lines) line is = absurd (cc is)

-- a request without a reply
unanswered : (p : Point) → IsExchange context p (record get_a { replies = [] }) → ⊥
unanswered p is =
    let shut = closed context p (record get_a { replies = [] }) is in
    not_empty (row_lines get_a.request shut.rows) shut.line shut.lines

-- an OK line without a put
never_made : (p : Point) → IsExchange context p (record put_a { steps = [] }) → ⊥
never_made p is = absurd (cc (exchange_tells context p (record put_a { steps = [] }) is))

-- DISK where the disk had no fault
no_fault : (p : Point)
    → IsExchange context p
    (record get_a { steps = step one_file Quiet Done ∷ []; replies = Disk ∷ [] }) → ⊥
no_fault p is =
    elim (caused context p
    (record get_a { steps = step one_file Quiet Done ∷ []; replies = Disk ∷ [] })
    [] Disk is refl refl) [
      | inl fault ↦ omega arith
      | inr none ↦ none
    ]

-- ---- a session that ends before its input does

ends_early : Session context telling 100 [] [] (record first_traffic { left = 71 ∷ [] }) End → ⊥
ends_early s =
    let read = end_read 100 (requests_of (exchanges s.transcript)) first_traffic.input (71 ∷ [])
    (s.reads refl) in
    absurd (cc read.1)

-- ---- among many callers

-- caller 1 puts, and then caller 0 gets
abbrev another : Step
another = record (step one_file (put_call (97 ∷ []) (49 ∷ []) five) (numbered_answer
    (record { 0 = 1 }))) {
      entry = record {
        caller = 1;
        call = put_call (97 ∷ []) (49 ∷ []) five;
        reply = numbered_answer
            (record { 0 = 1 });
      };
    }

abbrev get_behind : Exchange
get_behind = record get_a { steps = another ∷ get_a.steps }

abbrev get_traffic : Traffic
get_traffic = record {
  input = codes "GET 1\na\n";
  left = [];
  output = codes "VALUE 1\n1\n";
  moments = five ∷ [];
  later = five ∷ [];
}

is_get : IsExchange context (point_of opening []) get_behind
is_get = record {
  fits = key_fits 97 (omega arith);
  clock = refl;
  replied = inl (record {
    answer = Found (49 ∷ []);
    reply = Value (49 ∷ []);
    called = refl;
    lines = refl;
    shows = refl;
  });
}

with_another : Session context telling 100 [] (steps_of (get_behind ∷ [])) get_traffic End
unfolding request_text reply_text digits
with_another = record {
  transcript = record { served = get_behind ∷ []; last = None };
  said = record { served = (is_get, refl, tt); last = tt };
  steps = refl;
  offset = tt;
  reads = λ told. record {
    part = [];
    whole = refl;
    within = omega arith;
    ends =
        (refl, refl, omega arith);
  };
  writes = λ told. refl;
  ticks = λ told. (refl, refl);
}

legal : IsLegalHistory opening (steps_of (get_behind ∷ []))
legal = (refl, (refl, tt))

not_told : log_of opening (steps_of (get_behind ∷ [])) ≡ log_of opening [] ++ told_writes
    (get_behind ∷ []) → ⊥
not_told is = absurd (cc is)
