-- Sessions written out by hand: a put and a get to the end of the input; and STAT, SYNC, KEYS,
-- FOLD and QUIT behind a put.
use Rattle.std.proofs.Common.{◌≡◌, ℕ, ◌<◌, List, [], ◌∷◌, ◌++◌, Bool, true, false, Some, None}
use Rattle.std.proofs.Common.{codes, suc, zero, refl, sym, ap, ◌∙◌, cond, arith, inl}
use Rattle.std.specs.Fmt.{digits}
use Rattle.std.specs.Prelude.{◌||◌}
use Rattle.std.specs.Str.{bytes_eq}
use Rattle.std.proofs.lemmas.Bool.{false_from_ne_true, true≢false}
use Rattle.std.proofs.lemmas.Slice.Eq.{bytes_eq-Decides}
use Rattle.bk_base.specs.Blanks.{blank_opening, blank_snapshot, blank_step}
use Rattle.bk_base.specs.Bounds.{AreBytes}
use Rattle.bk_base.specs.declared.calls.Answer.{Answer}
use Rattle.bk_base.specs.declared.calls.Answer.TheVariants.{Done, End as end_answer}
use Rattle.bk_base.specs.declared.calls.Answer.TheVariants.{Fold as fold_answer, Found}
use Rattle.bk_base.specs.declared.calls.Answer.TheVariants.{Numbered as numbered_answer}
use Rattle.bk_base.specs.declared.calls.Answer.TheVariants.{Pair as pair_answer}
use Rattle.bk_base.specs.declared.calls.Call.{Call}
use Rattle.bk_base.specs.declared.calls.Call.TheVariants.{FoldClose, FoldNext, FoldOpen}
use Rattle.bk_base.specs.declared.calls.Call.TheVariants.{Get as get_call, Put as put_call, Quiet}
use Rattle.bk_base.specs.declared.calls.Call.TheVariants.{Sync as sync_call}
use Rattle.bk_base.specs.declared.histories.Opening.{Opening}
use Rattle.bk_base.specs.declared.histories.Snapshot.{Snapshot}
use Rattle.bk_base.specs.declared.histories.Step.{Step}
use Rattle.bk_base.specs.declared.numbers.Moment.{Moment}
use Rattle.bk_base.specs.declared.requests.Reply.TheVariants.{Bye, End as end_line, Key as key_line}
use Rattle.bk_base.specs.declared.requests.Reply.TheVariants.{Numbered, Pair as pair_line}
use Rattle.bk_base.specs.declared.requests.Reply.TheVariants.{Stat as stat_line, Synced, Value}
use Rattle.bk_base.specs.declared.requests.Request.TheVariants.{Fold, Get, Keys, Put, Quit, Stat}
use Rattle.bk_base.specs.declared.requests.Request.TheVariants.{Sync}
use Rattle.bk_base.specs.declared.rows.RowState.TheVariants.{Active}
use Rattle.bk_base.specs.declared.statuses.SessionEnd.TheVariants.{End, Quit as quit_end}
use Rattle.bk_base.specs.declared.writes.Body.TheVariants.{Put as put_body}
use Rattle.bk_base.specs.declared.writes.Write.{Write}
use Rattle.bk_laws.specs.History.{IsLegalHistory, IsOwn, IsReply, State, is_listed}
use Rattle.bk_laws.specs.Log.{live, live_in, or_else}
use Rattle.bk_laws.specs.Wire.{FitsKey, FitsValue, reply_text, request_text}
use Rattle.bk_exchange.specs.Points.{Point, point_of}
use Rattle.bk_exchange.specs.Answers.{Context}
use Rattle.bk_exchange.specs.Exchanges.{Exchange, IsExchange, steps_of}
use Rattle.bk_exchange.specs.Sessions.{Session, Telling, Traffic}
use Rattle.bk_exchange.specs.OneThread.{OneThread}
use Rattle.bk_exchange.specs.Writes.{put_of}

-- ---- data

pub one_byte : (n : ℕ) → n < 256 → AreBytes (n ∷ [])
one_byte n small zero = small
one_byte n small (suc i) = omega arith

pub key_fits : (n : ℕ) → n < 256 → FitsKey (n ∷ [])
key_fits n small = record { bounds = record { some = omega arith; short = omega arith }; bytes = one_byte n small }

pub value_fits : (n : ℕ) → n < 256 → FitsValue (n ∷ [])
value_fits n small = record { bounds = omega arith; bytes = one_byte n small }

abbrev pub five : Moment
five = record { 0 = 5 }

-- a step of caller 0, and the files as it ended
abbrev pub step : Snapshot → Call → Answer → Step
step snapshot call answer =
    record blank_step { entry = record { caller = 0; call = call; reply = answer }; snapshot = snapshot }

-- one file with one record of 24 bytes
abbrev pub one_file : Snapshot
one_file = record blank_snapshot {
  rows = (record { len = 24; total = 24; live = 24; refs = 1; id = record { 0 = 1 }; state = Active }) ∷ [];
  last_file = record { 0 = 1 };
}

abbrev pub opening : Opening
opening = record blank_opening { whole = true }

abbrev pub context : Context
context = record { who = 0; opening = opening; spent = false }

abbrev pub put_a : Exchange
put_a = record {
  request = Put (97 ∷ []) (49 ∷ []);
  now = Some five;
  steps = step one_file (put_call (97 ∷ []) (49 ∷ []) five) (numbered_answer
      (record { 0 = 1 })) ∷ [];
  replies = Numbered (record { 0 = 1 }) ∷ [];
}

abbrev pub get_a : Exchange
get_a = record {
  request = Get (97 ∷ []);
  now = Some five;
  steps = step one_file (get_call (97 ∷ []) five) (Found (49 ∷ [])) ∷ [];
  replies = Value (49 ∷ []) ∷ [];
}

pub is_put_a : (p : Point) → IsExchange context p put_a
is_put_a p = record {
  fits = (key_fits 97 (omega arith), value_fits 49 (omega arith));
  clock = refl;
  replied = inl (record {
    answer = numbered_answer (record { 0 = 1 });
    reply = Numbered (record { 0 = 1 });
    called = refl;
    lines = refl;
    shows = refl;
  });
}

pub is_get_a : (p : Point) → IsExchange context p get_a
is_get_a p = record {
  fits = key_fits 97 (omega arith);
  clock = refl;
  replied = inl (record {
    answer = Found (49 ∷ []);
    reply = Value (49 ∷ []);
    called = refl;
    lines = refl;
    shows = refl;
  });
}

abbrev pub telling : Telling
telling = record { source = true; sink = true; clock = true }

-- ---- a put and a get, to the end of the input

abbrev both : List Exchange
both = put_a ∷ get_a ∷ []

abbrev pub first_traffic : Traffic
first_traffic = record {
  input = codes "PUT 1 1\na1\nGET 1\na\n";
  left = [];
  output = codes "OK 1\nVALUE 1\n1\n";
  moments = five ∷ [];
  later = five ∷ [];
}

pub to_the_end : Session context telling 100 [] (steps_of both) first_traffic End
unfolding request_text reply_text digits
to_the_end = record {
  transcript = record { served = both; last = None };
  said = record {
    served = (
      is_put_a (point_of opening []),
      refl,
      (
        is_get_a
            (point_of opening put_a.steps),
        refl,
        tt,
      ),
    );
    last = tt;
  };
  steps = refl;
  offset = tt;
  reads = λ told. record {
    part = [];
    whole = refl;
    within = omega arith;
    ends =
        (refl, refl, omega arith);
  };
  writes = λ told. refl;
  ticks = λ told. (refl, (refl, refl));
}

pub alone : OneThread context (steps_of both) [] [] (record { served = both; last = None })
alone = record {
  unspent = refl;
  own = (
    record { alone = (refl, tt); few = λ other. omega arith; quiet = refl },
    (record { alone = (refl, tt); few = λ other. omega arith; quiet = refl }, tt),
  );
  tries = inl refl;
}

legal : IsLegalHistory opening (steps_of both)
legal = (refl, (refl, tt))

-- ---- STAT, SYNC, KEYS, FOLD and QUIT behind a put

abbrev stat : Exchange
stat = record {
  request = Stat;
  now = None;
  steps = step one_file Quiet Done ∷ [];
  replies = stat_line 1 1 24 24 ∷ [];
}

abbrev sync : Exchange
sync = record {
  request = Sync;
  now = None;
  steps = step one_file sync_call (numbered_answer (record { 0 = 1 })) ∷ [];
  replies = Synced (record { 0 = 1 }) ∷ [];
}

abbrev listing_steps : List Step
listing_steps =
    step one_file (FoldOpen five) (fold_answer (record { 0 = 1 }) 0)
    ∷ step one_file (FoldNext 0) (pair_answer (97 ∷ []) (49 ∷ []))
    ∷ step one_file (FoldNext 0) end_answer
    ∷ step one_file (FoldClose 0) Done ∷ []

abbrev keys : Exchange
keys = record {
  request = Keys;
  now = Some five;
  steps = listing_steps;
  replies = key_line (97 ∷ []) ∷ end_line 1 ∷ [];
}

abbrev fold : Exchange
fold = record {
  request = Fold;
  now = Some five;
  steps = listing_steps;
  replies = pair_line (97 ∷ []) (49 ∷ []) ∷ end_line 1 ∷ [];
}

abbrev quit : Exchange
quit = record { request = Quit; now = None; steps = []; replies = Bye ∷ [] }

abbrev served : List Exchange
served = put_a ∷ stat ∷ sync ∷ keys ∷ fold ∷ []

abbrev whole_traffic : Traffic
whole_traffic = record {
  input = codes "PUT 1 1\na1\nSTAT\nSYNC\nKEYS\nFOLD\nQUIT\nGET";
  left = codes " 1\n";
  output = codes "OK 1\nSTAT 1 1 24 24\nSYNCED 1\nKEY 1\na\nEND 1\nPAIR 1 1\na1\nEND 1\nBYE\n";
  moments = five ∷ five ∷ [];
  later = five ∷ [];
}

is_stat : IsExchange context (point_of opening put_a.steps) stat
is_stat = record {
  fits = tt;
  clock = refl;
  replied = inl (record {
    keys = 1;
    files = 1;
    total = 24;
    live = 24;
    called = refl;
    lines = refl;
    counted = inl (record {
      quiet = refl;
      still = refl;
      shows_keys = λ whole. refl;
      shows_files = refl;
      shows_total = refl;
      shows_live = refl;
    });
  });
}

is_sync : (p : Point) → IsExchange context p sync
is_sync p = record {
  fits = tt;
  clock = refl;
  replied = inl (record {
    answer = numbered_answer (record { 0 = 1 });
    reply = Synced (record { 0 = 1 });
    called = refl;
    lines = refl;
    shows = refl;
  });
}

is_keys : (p : Point) → IsExchange context p keys
is_keys p = record {
  fits = tt;
  clock = refl;
  replied = inl (record {
    epoch = record { 0 = 1 };
    slot = 0;
    rows = (record { key = 97 ∷ []; value = 49 ∷ [] }) ∷ [];
    called = refl;
    lines = refl;
  });
}

is_fold : (p : Point) → IsExchange context p fold
is_fold p = record {
  fits = tt;
  clock = refl;
  replied = inl (record {
    epoch = record { 0 = 1 };
    slot = 0;
    rows = (record { key = 97 ∷ []; value = 49 ∷ [] }) ∷ [];
    called = refl;
    lines = refl;
  });
}

is_quit : (p : Point) → IsExchange context p quit
is_quit p = record {
  fits = tt;
  clock = refl;
  replied = inl
      (record { called = refl; lines = refl });
}

-- bytes behind QUIT are dropped, whether or not they were taken
pub to_quit : Session context telling 100 [] (steps_of (served ++ quit ∷ []))
    (record whole_traffic {
      input = codes "PUT 1 1\na1\nSTAT\nSYNC\nKEYS\nFOLD\nQUIT\nGET 1\n";
    }) quit_end
unfolding request_text reply_text digits
to_quit = record {
  transcript = record { served = served; last = Some quit };
  said = record {
    served = (
      is_put_a (point_of opening []),
      refl,
      (
        is_stat,
        refl,
        (
          is_sync (point_of opening (put_a.steps ++ stat.steps)),
          refl,
          (
            is_keys (point_of opening (put_a.steps ++ (stat.steps ++ sync.steps))),
            refl,
            (
              is_fold (point_of opening (put_a.steps ++ (stat.steps ++
                  (sync.steps ++ keys.steps)))),
              refl,
              tt,
            ),
          ),
        ),
      ),
    );
    last = (refl, is_quit (point_of opening (steps_of served)));
  };
  steps = refl;
  offset = tt;
  reads = λ told. record { part = codes "GET"; whole = refl; within = omega arith; ends = tt };
  writes = λ told. refl;
  ticks = λ told. (refl, (refl, (refl, refl)));
}

-- ---- these steps are legal

abbrev put_write : Write
put_write = put_of (record { 0 = 1 }) five (97 ∷ []) (put_body (49 ∷ []))

-- a log of one put, and perhaps the fold over it
abbrev at_fold : List (List ℕ) → State
at_fold listed = record {
  log = put_write ∷ [];
  folds = (record { listed = listed; caller = 0; epoch = record { 0 = 1 }; now = five; slot = 0 }) ∷ [];
}

abbrev no_fold : State
no_fold = record { log = put_write ∷ []; folds = [] }

is_own : (listed : List (List ℕ)) → IsOwn 0 0
    (record { listed = listed; caller = 0; epoch = record { 0 = 1 }; now = five; slot = 0 })
    (at_fold listed)
is_own listed = record { there = (0, omega arith, refl); is_slot = refl; is_caller = refl }

other_way : (a b : List ℕ) → bytes_eq a b ≡ false → bytes_eq b a ≡ false
other_way a b apart = false_from_ne_true (bytes_eq b a) (λ same.
    true≢false (sym ((bytes_eq-Decides a b).1 (sym ((bytes_eq-Decides b a).0 same))) ∙ apart))

nothing_left : (key : List ℕ) → is_listed key ((97 ∷ []) ∷ []) ≡ false
    → live (put_write ∷ []) key 5 0 ≡ None
nothing_left key apart =
    let differs : bytes_eq key (97 ∷ []) ≡ false = or_left (bytes_eq key (97 ∷ [])) apart in
    ap (λ (b : Bool). live_in (or_else None (cond b (Some put_write) None)) 5 0) (other_way key
    (97 ∷ []) differs)
  where
    or_left : (b : Bool) → b || false ≡ false → b ≡ false
    or_left true is = is
    or_left false is = refl

opens : IsReply 0 no_fold 0 (FoldOpen five) (fold_answer (record { 0 = 1 }) 0)
opens = (record { within = omega arith; free = refl; least = λ n less. absurd (omega arith) }, refl)

gives_a : IsReply 0 (at_fold []) 0 (FoldNext 0) (pair_answer (97 ∷ []) (49 ∷ []))
gives_a = (_, is_own [], refl, refl)

gives_end : IsReply 0 (at_fold ((97 ∷ []) ∷ [])) 0 (FoldNext 0) end_answer
gives_end = (_, is_own ((97 ∷ []) ∷ []), nothing_left)

closes_it : IsReply 0 (at_fold ((97 ∷ []) ∷ [])) 0 (FoldClose 0) Done
closes_it = (_, is_own ((97 ∷ []) ∷ []))

legal_to_quit : IsLegalHistory opening (steps_of (served ++ quit ∷ []))
legal_to_quit = (
  refl,
  (
    tt,
    (
      refl,
      (
        opens,
        (
          gives_a,
          (
            gives_end,
            (
              closes_it,
              (opens, (gives_a, (gives_end, (closes_it, tt)))),
            ),
          ),
        ),
      ),
    ),
  ),
)
