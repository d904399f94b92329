-- Exchanges written out by hand: deletes, a put that the disk refuses and then takes, a value that
-- can't be read, a fold over two keys, and one that its sink cuts.
use Rattle.std.proofs.Common.{◌≡◌, [], ◌∷◌, Some, refl, arith, inl, inr}
use Rattle.std.proofs.Common.{codes}
use Rattle.std.specs.Fmt.{digits}
use Rattle.bk_base.specs.Blanks.{blank_snapshot}
use Rattle.bk_base.specs.declared.calls.Answer.TheVariants.{Done, End as end_answer}
use Rattle.bk_base.specs.declared.calls.Answer.TheVariants.{Fold as fold_answer, Found, Nothing}
use Rattle.bk_base.specs.declared.calls.Answer.TheVariants.{Numbered as numbered_answer}
use Rattle.bk_base.specs.declared.calls.Answer.TheVariants.{Pair as pair_answer}
use Rattle.bk_base.specs.declared.calls.Call.TheVariants.{Delete as delete_call, FoldClose}
use Rattle.bk_base.specs.declared.calls.Call.TheVariants.{FoldNext, FoldOpen, Get as get_call}
use Rattle.bk_base.specs.declared.calls.Call.TheVariants.{Put as put_call, Quiet}
use Rattle.bk_base.specs.declared.histories.Step.{Step}
use Rattle.bk_base.specs.declared.requests.Reply.TheVariants.{Absent, Disk, End as end_line}
use Rattle.bk_base.specs.declared.requests.Reply.TheVariants.{Numbered, Pair as pair_line, Read}
use Rattle.bk_base.specs.declared.requests.Request.TheVariants.{Delete, Fold, Get, Put}
use Rattle.bk_base.specs.declared.statuses.SessionEnd.TheVariants.{Sink}
use Rattle.bk_base.specs.declared.writes.Body.TheVariants.{Put as put_body}
use Rattle.bk_laws.specs.History.{IsLegalHistory, log_of}
use Rattle.bk_laws.specs.Wire.{reply_text, request_text}
use Rattle.bk_exchange.specs.Points.{Point, point_of}
use Rattle.bk_exchange.specs.Exchanges.{Exchange, IsCut, IsExchange, steps_of}
use Rattle.bk_exchange.specs.OneThread.{IsOwn, MayBeTried}
use Rattle.bk_exchange.specs.Sessions.{Session, Traffic}
use Rattle.bk_exchange.specs.Writes.{put_of, told_writes}
use Rattle.bk_exchange.proofs.SessionExamples.{context, five, is_put_a, key_fits, one_file, opening}
use Rattle.bk_exchange.proofs.SessionExamples.{put_a, step, telling, value_fits}

-- ---- deletes: of a key that was put, and then again

abbrev delete_a : Exchange
delete_a = record {
  request = Delete (97 ∷ []);
  now = Some five;
  steps = step one_file (delete_call (97 ∷ []) five) (numbered_answer (record { 0 = 2 })) ∷ [];
  replies = Numbered (record { 0 = 2 }) ∷ [];
}

abbrev delete_again : Exchange
delete_again = record {
  request = Delete (97 ∷ []);
  now = Some five;
  steps = step one_file (delete_call (97 ∷ []) five) Nothing ∷ [];
  replies = Absent ∷ [];
}

is_delete : (p : Point) → IsExchange context p delete_a
is_delete p = record {
  fits = key_fits 97 (omega arith);
  clock = refl;
  replied = inl (record {
    answer = numbered_answer (record { 0 = 2 });
    reply = Numbered (record { 0 = 2 });
    called = refl;
    lines = refl;
    shows = refl;
  });
}

is_delete_again : (p : Point) → IsExchange context p delete_again
is_delete_again p = record {
  fits = key_fits 97 (omega arith);
  clock = refl;
  replied = inl (record { answer = Nothing; reply = Absent; called = refl; lines = refl; shows = tt });
}

deletes_legal : IsLegalHistory opening (steps_of (put_a ∷ delete_a ∷ delete_again ∷ []))
deletes_legal = (refl, ((refl, refl), (refl, tt)))

-- the log is what the OK lines tell
deletes_told : told_writes (put_a ∷ delete_a ∷ delete_again ∷ []) ≡ log_of opening (steps_of
    (put_a ∷ delete_a ∷ delete_again ∷ []))
deletes_told = refl

-- ---- a put that the disk refuses, and then takes

abbrev fault : Step
fault = record (step blank_snapshot Quiet Done) { faults = 1 }

abbrev refused_put : Exchange
refused_put = record {
  request = Put (97 ∷ [])
      (49 ∷ []);
  now = Some five;
  steps = fault ∷ [];
  replies = Disk ∷ [];
}

is_refused : (p : Point) → IsExchange context p refused_put
is_refused p = record {
  fits = (key_fits 97 (omega arith), value_fits 49 (omega arith));
  clock = refl;
  replied = inr (inl (record {
    line = Disk;
    called = refl;
    lines = refl;
    may = refl;
    cause = inl
        (omega arith);
  }));
}

refused_own : IsOwn context refused_put
refused_own = record { alone = (refl, tt); few = λ other. omega arith; quiet = refl }

-- the write that was tried has the next seq
was_tried : MayBeTried (log_of opening (steps_of (refused_put ∷ []))) [] (refused_put ∷ [])
    (put_of (record { 0 = 1 }) five (97 ∷ []) (put_body (49 ∷ [])) ∷ [])
was_tried = inr (inr (record {
  before = [];
  refused = refused_put;
  since = [];
  whole = refl;
  disk = refl;
  write = refl;
  nothing = refl;
}))

-- once a put is answered by a number, nothing is
then_put : MayBeTried (log_of opening (steps_of (refused_put ∷ put_a ∷ []))) []
    (refused_put ∷ put_a ∷ []) []
then_put = inl refl

-- ---- a value that was found and can't be read

abbrev unread : Exchange
unread = record {
  request = Get (97 ∷ []);
  now = Some five;
  steps = record (step one_file (get_call (97 ∷ []) five) (Found (49 ∷ []))) { views = 1 } ∷ [];
  replies = Read ∷ [];
}

is_unread : (p : Point) → IsExchange context p unread
is_unread p = record {
  fits = key_fits 97 (omega arith);
  clock = refl;
  replied = inr (inr (record {
    value = 49 ∷ [];
    line = Read;
    called = refl;
    lines = refl;
    may = refl;
    cause = inl (omega arith);
  }));
}

unread_own : IsOwn context unread
unread_own = record { alone = (refl, tt); few = λ other. omega arith; quiet = refl }

-- ---- a fold over two keys

abbrev put_b : Exchange
put_b = record {
  request = Put (98 ∷ []) (50 ∷ []);
  now = Some five;
  steps = step one_file (put_call (98 ∷ []) (50 ∷ []) five) (numbered_answer
      (record { 0 = 2 })) ∷ [];
  replies = Numbered (record { 0 = 2 }) ∷ [];
}

abbrev fold_both : Exchange
fold_both = record {
  request = Fold;
  now = Some five;
  steps = step one_file (FoldOpen five) (fold_answer (record { 0 = 2 }) 0)
      ∷ step one_file (FoldNext 0) (pair_answer (98 ∷ []) (50 ∷ []))
      ∷ step one_file (FoldNext 0) (pair_answer (97 ∷ []) (49 ∷ []))
      ∷ step one_file (FoldNext 0) end_answer
      ∷ step one_file (FoldClose 0) Done ∷ [];
  replies = pair_line (98 ∷ []) (50 ∷ []) ∷ pair_line (97 ∷ []) (49 ∷ []) ∷ end_line 2 ∷ [];
}

is_fold_both : (p : Point) → IsExchange context p fold_both
is_fold_both p = record {
  fits = tt;
  clock = refl;
  replied = inl (record {
    epoch = record { 0 = 2 };
    slot = 0;
    rows = (record { key = 98 ∷ []; value = 50 ∷ [] }) ∷
        (record { key = 97 ∷ []; value = 49 ∷ [] }) ∷ [];
    called = refl;
    lines = refl;
  });
}

-- ---- a fold that its sink cuts

abbrev cut : Exchange
cut = record {
  request = Fold;
  now = Some five;
  steps = step one_file (FoldOpen five) (fold_answer (record { 0 = 1 }) 0)
      ∷ step one_file (FoldNext 0) (pair_answer (97 ∷ []) (49 ∷ []))
      ∷ step one_file (FoldClose 0) Done ∷ [];
  replies = pair_line (97 ∷ []) (49 ∷ []) ∷ [];
}

is_cut : (p : Point) → IsCut context p cut
is_cut p = record {
  listing = refl;
  clock = refl;
  epoch = record { 0 = 1 };
  slot = 0;
  rows = (record { key = 97 ∷ []; value = 49 ∷ [] }) ∷ [];
  behind = _;
  called = refl;
  closes = refl;
  lines = refl;
}

abbrev cut_traffic : Traffic
cut_traffic = record {
  input = codes "PUT 1 1\na1\nFOLD\nQUIT\n";
  left = [];
  output = codes "OK 1\nPAI";
  moments = five ∷ [];
  later = five ∷ [];
}

by_its_sink : Session context telling 100 [] (steps_of (put_a ∷ cut ∷ [])) cut_traffic Sink
unfolding request_text reply_text digits
by_its_sink = record {
  transcript = record { served = put_a ∷ []; last = Some cut };
  said = record {
    served = (is_put_a (point_of opening []), refl, tt);
    last = inr (is_cut (point_of opening put_a.steps));
  };
  steps = refl;
  offset = tt;
  reads = λ told. record { part = codes "QUIT\n"; whole = refl; within = omega arith; ends = tt };
  writes = λ told. inl (codes "R 1 1\na1\n", refl);
  ticks = λ told. (refl, (refl, refl));
}
