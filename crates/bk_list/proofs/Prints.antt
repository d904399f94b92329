-- The rows on their way out, and how a listing ends.
use Rattle.std.proofs.Common.{◌≡◌, ◌∙◌, ℕ, ◌+◌, ◌<◌, ◌≤◌, Bool, false, List, [], ◌∷◌}
use Rattle.std.proofs.Common.{◌++◌, length, get_or, drop, take, refl, sym, ap, subst, arith, inl, inr}
use Rattle.std.proofs.Common.{None, Some}
use Rattle.std.specs.Prelude.{◌≢◌, IsTrue}
use Rattle.std.specs.List.{flat_map}
use Rattle.std.proofs.lemmas.List.{append-nil, append_assoc, length-append, map-append, take-append-drop, take_more}
use Rattle.std.proofs.lemmas.List.Concat.{flat_map-append}
use Rattle.bk_base.specs.declared.histories.Step.{Step}
use Rattle.bk_base.specs.declared.damages.Damage.{Damage}
use Rattle.bk_base.specs.declared.numbers.Moment.{Moment}
use Rattle.bk_base.specs.declared.requests.Reply.TheVariants.{Damaged as damaged_line, End, Pair}
use Rattle.bk_base.specs.declared.requests.Request.TheVariants.{Fold}
use Rattle.bk_disk.specs.Streams.{LeftOver, Wrote}
use Rattle.bk_exchange.specs.Listings.{Row, row_line, row_lines}
use Rattle.bk_exchange.specs.Points.{Said}
use Rattle.bk_exchange.specs.Sessions.{IsStart}
use Rattle.bk_laws.specs.Wire.{reply_text}
use Rattle.bk_session.specs.declared.outbox.Unread.{Unread}
use Rattle.bk_session.specs.declared.outbox.Unread.TheVariants.{Sink as sink_failed, Memory as no_memory, Read, Damaged as is_damaged}
use Rattle.bk_session.specs.Listing.{Begun, Listed, rows_text}
use Rattle.bk_session.specs.Outgoing.{Outgoing, Sends, Stops, outgoing}
use Rattle.bk_session.proofs.Texts.{lines_text, sends_none}
use Rattle.bk_store.specs.declared.errors.LocateError.{LocateError}
use Rattle.bk_store.specs.declared.errors.LocateError.TheVariants.{Disk as locate_disk, Memory as locate_memory}
use Rattle.bk_store.specs.Shown.{Shown as StoreShown}
use Rattle.bk_list.specs.declared.lists.ListEnd.{ListEnd}
use Rattle.bk_list.specs.declared.lists.ListEnd.TheVariants.{Done, Memory, Disk, Sink, Damaged}
use Rattle.bk_list.specs.declared.printing.Shown.TheVariants.{Row as shown_row, Absent, Unread as is_unread, Refused}
use Rattle.bk_list.specs.Ending.{Breaks, WritesAll, WritesLine, end_of_locate}
use Rattle.bk_list.specs.Getting.{GoesTo, IsUnsent, PrintedKeys, PrintsKeys, Shows, Stays}
use Rattle.bk_list.specs.Printing.{Asked, BreaksOff, PrintsTo, asked}
use Rattle.bk_list.specs.Printing.{asked_keys, found_rows, get_call, get_calls, listing_text, row_if}
use Rattle.bk_list.specs.Gathering.{keys_of}
use Rattle.bk_list.proofs.Gets.{stays_none, stays_then}
use Rattle.bk_store.specs.Events.{KeepsPast}
use Rattle.bk_store.proofs.Pasts.{past_same, past_then}

-- ---- texts

-- what was written before, what went out, what is gathered and what stands behind it
texts : (before o gathered text line written now : List ℕ) → written ≡ before ++ o → o ++ gathered ≡ text
    → now ≡ written ++ (gathered ++ line) → now ≡ before ++ (text ++ line)
texts before o gathered text line written now wrote all is =
    is ∙ ap (λ (l : List ℕ). l ++ (gathered ++ line)) wrote ∙ append_assoc before o (gathered ++ line)
    ∙ ap (λ (l : List ℕ). before ++ l) (sym (append_assoc o gathered line) ∙ ap (λ (l : List ℕ). l ++ line) all)

pub all_out : (before text line : List ℕ) (out : Outgoing) (now : List ℕ) → Sends (outgoing before []) text out
    → Wrote out.written now (out.gathered ++ line) → now ≡ before ++ (text ++ line)
all_out before text line out now s is = texts before s.out out.gathered text line out.written now s.wrote s.all is

-- a first part of a text went out
pub record IsPart (before text now : List ℕ) : Type 0 where
  pub output : List ℕ
  pub wrote : now ≡ before ++ output
  pub start : IsStart output text

pub part_out : (before text line : List ℕ) (out : Outgoing) (now : List ℕ) → Sends (outgoing before []) text out
    → LeftOver out.written now (out.gathered ++ line) → IsPart before (text ++ line) now
part_out before text line out now s (part, rest, is, whole) = record {
  output = s.out ++ part;
  wrote = is ∙ ap (λ (l : List ℕ). l ++ part) s.wrote ∙ append_assoc before s.out part;
  start = (
    rest,
    append_assoc s.out part rest ∙ ap (λ (l : List ℕ). s.out ++ l) whole ∙ sym (append_assoc s.out out.gathered line)
        ∙ ap (λ (l : List ℕ). l ++ line) s.all,
  );
}

pub part_stopped : (before text : List ℕ) (out : Outgoing) → Stops (outgoing before []) text out → IsPart before text out.written
part_stopped before text out s = record { output = s.out; wrote = s.wrote; start = (s.lost, s.start) }

pub part_more : (before text more now : List ℕ) → IsPart before text now → IsPart before (text ++ more) now
part_more before text more now p = record {
  output = p.output;
  wrote = p.wrote;
  start = (
    p.start.0 ++ more,
    sym (append_assoc p.output p.start.0 more) ∙ ap (λ (l : List ℕ). l ++ more) p.start.1,
  );
}

-- ---- rows

rows_text-append : (rows more : List Row) → rows_text Fold (rows ++ more) ≡ rows_text Fold rows ++ rows_text Fold more
rows_text-append rows more =
    ap (flat_map reply_text) (map-append (row_line Fold) rows more)
    ∙ flat_map-append reply_text (row_lines Fold rows) (row_lines Fold more)

-- the text of some rows begins that of all
text_begins : (rows more : List Row)
    → listing_text (rows ++ more) ≡ rows_text Fold rows ++ (rows_text Fold more ++ reply_text (End (length (rows ++ more))))
text_begins rows more =
    ap (λ (l : List ℕ). l ++ reply_text (End (length (rows ++ more)))) (rows_text-append rows more)
    ∙ append_assoc (rows_text Fold rows) (rows_text Fold more) (reply_text (End (length (rows ++ more))))

-- a row more
row_text : (rows : List Row) (row : Row)
    → rows_text Fold (rows ++ row ∷ []) ≡ rows_text Fold rows ++ reply_text (Pair row.key row.value)
row_text rows row =
    ap (flat_map reply_text) (map-append (row_line Fold) rows (row ∷ []))
    ∙ lines_text (row_lines Fold rows) (Pair row.key row.value)

-- what stands behind the first text goes on with the second
texts_on : (a b rest mid first then : List ℕ) → a ++ mid ≡ first → b ++ rest ≡ mid ++ then
    → (a ++ b) ++ rest ≡ first ++ then
texts_on a b rest mid first then one two =
    append_assoc a b rest ∙ ap (λ (l : List ℕ). a ++ l) two ∙ sym (append_assoc a mid then)
    ∙ ap (λ (l : List ℕ). l ++ then) one

rows_sent : (before : List ℕ) (rows : List Row) (row : Row) (out new : Outgoing)
    → Sends (outgoing before []) (rows_text Fold rows) out → Sends out (reply_text (Pair row.key row.value)) new
    → Sends (outgoing before []) (rows_text Fold (rows ++ row ∷ [])) new
rows_sent before rows row out new s t = record {
  out = s.out ++ t.out;
  wrote = t.wrote ∙ ap (λ (l : List ℕ). l ++ t.out) s.wrote ∙ append_assoc before s.out t.out;
  all = texts_on s.out t.out new.gathered out.gathered (rows_text Fold rows) (reply_text (Pair row.key row.value)) s.all t.all
      ∙ sym (row_text rows row);
}

rows_stopped : (before : List ℕ) (rows : List Row) (row : Row) (out new : Outgoing)
    → Sends (outgoing before []) (rows_text Fold rows) out → Stops out (reply_text (Pair row.key row.value)) new
    → Stops (outgoing before []) (rows_text Fold (rows ++ row ∷ [])) new
rows_stopped before rows row out new s t = record {
  out = s.out ++ t.out;
  lost = t.lost;
  wrote = t.wrote ∙ ap (λ (l : List ℕ). l ++ t.out) s.wrote ∙ append_assoc before s.out t.out;
  start = texts_on s.out t.out t.lost out.gathered (rows_text Fold rows) (reply_text (Pair row.key row.value)) s.all t.start
      ∙ sym (row_text rows row);
}

-- ---- how it ends

module _ (known sink : Bool) (before : List ℕ) (first last : List Row) (few : length last ≤ 1) (out : Outgoing)
    (sent : IsTrue sink → Sends (outgoing before []) (rows_text Fold first) out) (now : List ℕ) where
  -- what is printed of these rows, the first of which were gathered
  pub record Ends (result : ListEnd) : Type 0 where
    pub prints : IsTrue sink → (others : List Row) → PrintsTo known result (first ++ last) others before now
    pub not_done : result ≡ Done → ⊥
    pub damaged : result ≡ Damaged → known ≡ false

  cut_short : Wrote out.written now out.gathered → IsTrue sink
      → (output : List ℕ) × (now ≡ before ++ output) × BreaksOff (first ++ last) [] output
  cut_short wrote tell = (
    rows_text Fold first ++ [],
    all_out before (rows_text Fold first) [] out now (sent tell)
        (wrote ∙ ap (λ (l : List ℕ). out.written ++ l) (sym (append-nil out.gathered))),
    record { first = first; last = last; few = few; are = refl; is = refl },
  )

  -- a part of a text that begins the listing
  part_prints : (others : List Row) (text : List ℕ) → IsPart before text now
      → (rest : List ℕ) → listing_text ((first ++ last) ++ others) ≡ text ++ rest
      → PrintsTo known Sink (first ++ last) others before now
  part_prints others text part rest is =
      let all = part_more before text rest now part in (
        all.output,
        all.wrote,
        inl (subst (IsStart all.output) (sym is) all.start),
      )

  first_begins : (others : List Row) → listing_text ((first ++ last) ++ others)
      ≡ rows_text Fold first ++ (rows_text Fold (last ++ others) ++ reply_text (End (length (first ++ (last ++ others)))))
  first_begins others = ap listing_text (append_assoc first last others) ∙ text_begins first (last ++ others)

  left_part : LeftOver out.written now out.gathered → IsTrue sink → (others : List Row)
      → PrintsTo known Sink (first ++ last) others before now
  left_part (part, rest, at, whole) tell others =
      part_prints others (rows_text Fold first)
      (subst (λ (l : List ℕ). IsPart before l now) (append-nil (rows_text Fold first))
      (part_out before (rows_text Fold first) [] out now (sent tell) (part, rest, at, whole ∙ sym (append-nil out.gathered))))
      (rows_text Fold (last ++ others) ++ reply_text (End (length (first ++ (last ++ others))))) (first_begins others)

  ends_sink : (IsTrue sink → LeftOver out.written now out.gathered) → Ends Sink
  ends_sink left = record {
    prints = λ tell others. left_part (left tell) tell others;
    not_done = λ is. cc is;
    damaged = λ is. absurd (cc is);
  }

  pub ends_memory : (result : ListEnd) → WritesAll Memory result sink out.written now out.gathered → Ends result
  ends_memory result (inl (is, wrote)) = subst Ends (sym is) (record {
    prints = λ tell others. cut_short (wrote tell) tell;
    not_done = λ is. cc is;
    damaged = λ is. absurd (cc is);
  })
  ends_memory result (inr (is, left)) = subst Ends (sym is) (ends_sink left)

  pub ends_disk : (result : ListEnd) → WritesAll Disk result sink out.written now out.gathered → Ends result
  ends_disk result (inl (is, wrote)) = subst Ends (sym is) (record {
    prints = λ tell others. cut_short (wrote tell) tell;
    not_done = λ is. cc is;
    damaged = λ is. absurd (cc is);
  })
  ends_disk result (inr (is, left)) = subst Ends (sym is) (ends_sink left)

  pub ends_located : (error : LocateError) (result : ListEnd)
      → WritesAll (end_of_locate error) result sink out.written now out.gathered → Ends result
  ends_located locate_disk result writes = ends_disk result writes
  ends_located locate_memory result writes = ends_memory result writes

  module _ (damage : Damage) (differs : damage.kept ≢ damage.found) (unknown : known ≡ false) where
    pub ends_damaged : (result : ListEnd)
        → WritesLine Damaged result sink out.written now out.gathered (reply_text (damaged_line damage)) → Ends result
    ends_damaged result (inl (inl (is, wrote))) = subst Ends (sym is) (record {
      prints = λ tell others. (
        rows_text Fold first ++ reply_text (damaged_line damage),
        all_out before (rows_text Fold first) (reply_text (damaged_line damage)) out now (sent tell) (wrote tell),
        record {
          unknown = unknown;
          damage = damage;
          differs = differs;
          breaks = record { first = first; last = last; few = few; are = refl; is = refl };
        },
      );
      not_done = λ is. cc is;
      damaged = λ is. unknown;
    })
    ends_damaged result (inl (inr (is, left))) = subst Ends (sym is) (record {
      prints = λ tell others.
          let part = part_out before (rows_text Fold first) (reply_text (damaged_line damage)) out now (sent tell)
          (left tell) in (
            part.output,
            part.wrote,
            inr (
              rows_text Fold first ++ reply_text (damaged_line damage),
              record {
                unknown = unknown;
                damage = damage;
                differs = differs;
                breaks = record { first = first; last = last; few = few; are = refl; is = refl };
              },
              part.start,
            ),
          );
      not_done = λ is. cc is;
      damaged = λ is. unknown;
    })
    ends_damaged result (inr rest) = ends_memory result (inl rest)

-- a row alone is few
pub one_row : 1 ≤ 1
one_row = omega arith

-- a pair that couldn't be gathered
pub ends_unsent : (known sink : Bool) (before : List ℕ) (first : List Row) (key value : List ℕ) (out new : Outgoing)
    (sent : IsTrue sink → Sends (outgoing before []) (rows_text Fold first) out) (now : List ℕ) (why : Unread) (result : ListEnd)
    → IsUnsent why known sink key value out new → Breaks why result sink new.written now new.gathered
    → Ends known sink before first (row_if key (Some value)) one_row out sent now result
ends_unsent known sink before first key value out new sent now sink_failed result unsent (is, same) =
    let row : Row = record { key = key; value = value } in
    subst (Ends known sink before first (row ∷ []) one_row out sent now) (sym is) (record {
      prints = λ tell others.
          part_prints known sink before first (row ∷ []) one_row out sent now others (rows_text Fold (first ++ row ∷ []))
          (subst (IsPart before (rows_text Fold (first ++ row ∷ []))) (sym same)
          (part_stopped before (rows_text Fold (first ++ row ∷ [])) new
          (rows_stopped before first row out new (sent tell) (unsent tell))))
          (rows_text Fold others ++ reply_text (End (length ((first ++ row ∷ []) ++ others))))
          (text_begins (first ++ row ∷ []) others);
      not_done = λ is. cc is;
      damaged = λ is. absurd (cc is);
    })
ends_unsent known sink before first key value out new sent now no_memory result unsent breaks =
    ends_memory known sink before first (row_if key (Some value)) one_row out sent now result
    (subst (λ (o : Outgoing). WritesAll Memory result sink o.written now o.gathered) unsent breaks)
ends_unsent known sink before first key value out new sent now Read result unsent breaks =
    ends_disk known sink before first (row_if key (Some value)) one_row out sent now result
    (subst (λ (o : Outgoing). WritesAll Disk result sink o.written now o.gathered) unsent breaks)
ends_unsent known sink before first key value out new sent now (is_damaged damage) result unsent breaks =
    ends_damaged known sink before first (row_if key (Some value)) one_row out sent now damage unsent.1 unsent.2 result
    (subst (λ (o : Outgoing). WritesLine Damaged result sink o.written now o.gathered (reply_text (damaged_line damage)))
    unsent.0 breaks)

-- ---- the keys that were got

calls_more : (now : Moment) (behind : List Said) (got : List Asked) (a : Asked)
    → (behind ++ get_calls now got) ++ get_call now a ∷ [] ≡ behind ++ get_calls now (got ++ a ∷ [])
calls_more now behind got a =
    append_assoc behind (get_calls now got) (get_call now a ∷ [])
    ∙ ap (λ (l : List Said). behind ++ l) (sym (map-append (get_call now) got (a ∷ [])))

keys_more : (got : List Asked) (a : Asked) → asked_keys (got ++ a ∷ []) ≡ asked_keys got ++ a.key ∷ []
keys_more got a = map-append (λ (x : Asked). x.key) got (a ∷ [])

rows_more : (got : List Asked) (a : Asked) → found_rows (got ++ a ∷ []) ≡ found_rows got ++ row_if a.key a.found
rows_more got a =
    flat_map-append (λ (x : Asked). row_if x.key x.found) got (a ∷ [])
    ∙ ap (λ (l : List Row). found_rows got ++ l) (append-nil (row_if a.key a.found))

pub no_rows : (rows : List Row) → keys_of rows ≡ [] → rows ≡ []
no_rows [] none = refl
no_rows (row ∷ rows) none = absurd (cc none)

-- so many keys so far
pub record Printed (known sink : Bool) (now : Moment) (before : List ℕ) (b : Begun) (slot : ℕ) (u : StoreShown) (given : List Row)
    (behind : List Said) (done : List (List ℕ)) (out : Outgoing) (count : ℕ) : Type 0 where
  pub got : List Asked
  pub are : asked_keys got ≡ done
  pub many : length (found_rows got) ≡ count
  pub goes : GoesTo known b slot u given (behind ++ get_calls now got) 0
  pub sent : IsTrue sink → Sends (outgoing before []) (rows_text Fold (found_rows got)) out

abbrev pub PrintsSome : Bool → Bool → Moment → List ℕ → StoreShown → StoreShown → List (List ℕ) → Outgoing → ℕ → Type 0
PrintsSome known sink now before v u done out count = (b : Begun) (slot : ℕ) (given : List Row) (behind : List Said)
    (steps : List Step) → Listed known b slot v given behind 0 steps
    → Printed known sink now before b slot u given behind done out count

module _ (known sink : Bool) (now : Moment) (before : List ℕ) (v : StoreShown) where
  pub prints_none : (gathered : List ℕ) → gathered ≡ [] → PrintsSome known sink now before v v [] (outgoing before gathered) 0
  prints_none gathered none b slot given behind steps l = record {
    got = [];
    are = refl;
    many = refl;
    goes = record {
      steps = steps;
      listed = subst (λ (said : List Said). Listed known b slot v given said 0 steps) (sym (append-nil behind)) l;
    };
    sent = λ tell. subst (λ (g : List ℕ). Sends (outgoing before []) [] (outgoing before g)) (sym none)
        (sends_none (outgoing before []));
  }

  pub prints_row : (m u : StoreShown) (done : List (List ℕ)) (key : List ℕ) (out new : Outgoing) (count : ℕ)
      → PrintsSome known sink now before v m done out count → Shows shown_row known sink key now m out u new
      → PrintsSome known sink now before v u (done ++ key ∷ []) new (count + 1)
  prints_row m u done key out new count some shows b slot given behind steps l =
      let p = some b slot given behind steps l in
      let (value, goes, sent) = shows b slot given (behind ++ get_calls now p.got) p.goes.steps p.goes.listed in
      let a = asked key (Some value) in
      let row : Row = record { key = key; value = value } in
      record {
        got = p.got ++ a ∷ [];
        are = keys_more p.got a ∙ ap (λ (ks : List (List ℕ)). ks ++ key ∷ []) p.are;
        many = ap (λ (rows : List Row). length rows) (rows_more p.got a)
            ∙ length-append (found_rows p.got) (row ∷ []) ∙ ap (λ (n : ℕ). n + 1) p.many;
        goes = subst (λ (said : List Said). GoesTo known b slot u given said 0) (calls_more now behind p.got a) goes;
        sent = λ tell. subst (λ (rows : List Row). Sends (outgoing before []) (rows_text Fold rows) new) (sym (rows_more p.got a))
            (rows_sent before (found_rows p.got) row out new (p.sent tell) (sent tell));
      }

  pub prints_absent : (m u : StoreShown) (done : List (List ℕ)) (key : List ℕ) (out new : Outgoing) (count : ℕ)
      → PrintsSome known sink now before v m done out count → Shows Absent known sink key now m out u new
      → PrintsSome known sink now before v u (done ++ key ∷ []) new count
  prints_absent m u done key out new count some shows b slot given behind steps l =
      let p = some b slot given behind steps l in
      let (goes, same) = shows b slot given (behind ++ get_calls now p.got) p.goes.steps p.goes.listed in
      let a = asked key None in
      let rows : found_rows (p.got ++ a ∷ []) ≡ found_rows p.got = rows_more p.got a ∙ append-nil (found_rows p.got) in
      record {
        got = p.got ++ a ∷ [];
        are = keys_more p.got a ∙ ap (λ (ks : List (List ℕ)). ks ++ key ∷ []) p.are;
        many = ap (λ (rs : List Row). length rs) rows ∙ p.many;
        goes = subst (λ (said : List Said). GoesTo known b slot u given said 0) (calls_more now behind p.got a) goes;
        sent = λ tell. subst (λ (rs : List Row). Sends (outgoing before []) (rows_text Fold rs) new) (sym rows)
            (subst (λ (o : Outgoing). Sends (outgoing before []) (rows_text Fold (found_rows p.got)) o) (sym same) (p.sent tell));
      }

  -- ---- all of them, or some

  pub prints_all : (u : StoreShown) (keys : List (List ℕ)) (out : Outgoing) (count : ℕ) (result : ListEnd) (after : List ℕ)
      → PrintsSome known sink now before v u keys out count
      → WritesLine Done result sink out.written after out.gathered (reply_text (End count))
      → PrintsKeys known sink result now keys v u before after
  prints_all u keys out count result after some writes b slot given behind steps l =
      let p = some b slot given behind steps l in
      go p (subst (λ (n : ℕ). WritesLine Done result sink out.written after out.gathered (reply_text (End n))) (sym p.many) writes)
    where
      go : (p : Printed known sink now before b slot u given behind keys out count)
          → WritesLine Done result sink out.written after out.gathered (reply_text (End (length (found_rows p.got))))
          → PrintedKeys known sink result now keys b slot u given behind before after
      go p (inl (inl (is, wrote))) =
          subst (λ (e : ListEnd). PrintedKeys known sink e now keys b slot u given behind before after) (sym is) (record {
            got = p.got;
            left = [];
            are = sym p.are ∙ sym (append-nil (asked_keys p.got));
            quiet = 0;
            few = omega arith;
            goes = p.goes;
            prints = λ tell others none. (
              listing_text (found_rows p.got),
              all_out before (rows_text Fold (found_rows p.got)) (reply_text (End (length (found_rows p.got)))) out after (p.sent tell)
                  (wrote tell),
              (no_rows others none, refl),
            );
            whole = λ is. (refl, refl);
            damaged = λ is. absurd (cc is);
          })
      go p (inl (inr (is, left))) =
          subst (λ (e : ListEnd). PrintedKeys known sink e now keys b slot u given behind before after) (sym is) (record {
            got = p.got;
            left = [];
            are = sym p.are ∙ sym (append-nil (asked_keys p.got));
            quiet = 0;
            few = omega arith;
            goes = p.goes;
            prints = λ tell others none.
                let part = part_out before (rows_text Fold (found_rows p.got)) (reply_text (End (length (found_rows p.got)))) out after
                (p.sent tell) (left tell) in (
                  part.output,
                  part.wrote,
                  inl (subst (λ (rows : List Row). IsStart part.output (listing_text rows))
                      (sym (ap (λ (rows : List Row). found_rows p.got ++ rows) (no_rows others none) ∙ append-nil (found_rows p.got)))
                      part.start),
                );
            whole = λ is. (refl, refl);
            damaged = λ is. absurd (cc is);
          })
      go p (inr (is, wrote)) =
          let ends = ends_memory known sink before (found_rows p.got) [] (omega arith) out p.sent after result (inl (is, wrote)) in
          record {
            got = p.got;
            left = [];
            are = sym p.are ∙ sym (append-nil (asked_keys p.got));
            quiet = 0;
            few = omega arith;
            goes = p.goes;
            prints = λ tell others none.
                subst (λ (rows : List Row). PrintsTo known result rows others before after) (append-nil (found_rows p.got))
                (ends.prints tell others);
            whole = λ is. (refl, refl);
            damaged = ends.damaged;
          }

  pub prints_until : (m u : StoreShown) (keys done rest : List (List ℕ)) (key : List ℕ) (out new : Outgoing) (count : ℕ)
      (why : Unread) (result : ListEnd) (after : List ℕ) → keys ≡ (done ++ key ∷ []) ++ rest
      → PrintsSome known sink now before v m done out count → Shows (is_unread why) known sink key now m out u new
      → Breaks why result sink new.written after new.gathered → PrintsKeys known sink result now keys v u before after
  prints_until m u keys done rest key out new count why result after whole some shows breaks b slot given behind steps l =
      let p = some b slot given behind steps l in
      let (value, goes, unsent) = shows b slot given (behind ++ get_calls now p.got) p.goes.steps p.goes.listed in
      let a = asked key (Some value) in
      let ends = ends_unsent known sink before (found_rows p.got) key value out new p.sent after why result unsent breaks in
      record {
        got = p.got ++ a ∷ [];
        left = rest;
        are = whole ∙ ap (λ (ks : List (List ℕ)). (ks ++ key ∷ []) ++ rest) (sym p.are)
            ∙ ap (λ (ks : List (List ℕ)). ks ++ rest) (sym (keys_more p.got a));
        quiet = 0;
        few = omega arith;
        goes = subst (λ (said : List Said). GoesTo known b slot u given said 0) (calls_more now behind p.got a) goes;
        prints = λ tell others are.
            subst (λ (rows : List Row). PrintsTo known result rows others before after) (sym (rows_more p.got a))
            (ends.prints tell others);
        whole = λ is. absurd (ends.not_done is);
        damaged = ends.damaged;
      }

  pub prints_refused : (m u : StoreShown) (keys done rest : List (List ℕ)) (key : List ℕ) (out new : Outgoing) (count : ℕ)
      (error : LocateError) (result : ListEnd) (after : List ℕ) → keys ≡ done ++ key ∷ rest
      → PrintsSome known sink now before v m done out count → Shows (Refused error) known sink key now m out u new
      → WritesAll (end_of_locate error) result sink new.written after new.gathered → PrintsKeys known sink result now keys v u before after
  prints_refused m u keys done rest key out new count error result after whole some shows writes b slot given behind steps l =
      let p = some b slot given behind steps l in
      let (goes, same) = shows b slot given (behind ++ get_calls now p.got) p.goes.steps p.goes.listed in
      let ends = ends_located known sink before (found_rows p.got) [] (omega arith) out p.sent after error result
      (subst (λ (o : Outgoing). WritesAll (end_of_locate error) result sink o.written after o.gathered) same writes) in
      record {
        got = p.got;
        left = key ∷ rest;
        are = whole ∙ ap (λ (ks : List (List ℕ)). ks ++ key ∷ rest) (sym p.are);
        quiet = 1;
        few = omega arith;
        goes = goes;
        prints = λ tell others are.
            subst (λ (rows : List Row). PrintsTo known result rows others before after) (append-nil (found_rows p.got))
            (ends.prints tell others);
        whole = λ is. absurd (ends.not_done is);
        damaged = ends.damaged;
      }

-- ---- the loop over the keys

-- what holds before each key
pub record Loop (tells sink : Bool) (now : Moment) (before : List ℕ) (first : StoreShown) (faults : ℕ) (v : StoreShown)
    (done : List (List ℕ)) (out : Outgoing) (count faults_now : ℕ) : Type 0 where
  pub some : (known : Bool) → (IsTrue known → IsTrue tells) → PrintsSome known sink now before first v done out count
  pub stays : Stays first v
  pub past : IsTrue tells → KeepsPast first.files.told v.files.told
  pub later : faults ≤ faults_now
  pub few : count ≤ length done

module _ (tells sink : Bool) (now : Moment) (before : List ℕ) (first : StoreShown) (faults : ℕ) where
  pub loop_begins : (gathered : List ℕ) → gathered ≡ [] → Loop tells sink now before first faults first [] (outgoing before gathered) 0 faults
  loop_begins gathered none = record {
    some = λ known sub. prints_none known sink now before first gathered none;
    stays = stays_none first;
    past = λ tell. past_same first.files.told first.files.told refl;
    later = omega arith;
    few = omega arith;
  }

  module _ (v u : StoreShown) (done : List (List ℕ)) (key : List ℕ) (out new : Outgoing) (count now_faults new_faults : ℕ)
      (l : Loop tells sink now before first faults v done out count now_faults) (stays : Stays v u)
      (past : IsTrue tells → KeepsPast v.files.told u.files.told) (later : now_faults ≤ new_faults) where
    pub loop_row : ((known : Bool) → (IsTrue known → IsTrue tells) → Shows shown_row known sink key now v out u new)
        → Loop tells sink now before first faults u (done ++ key ∷ []) new (count + 1) new_faults
    loop_row shows = record {
      some = λ known sub. prints_row known sink now before first v u done key out new count (l.some known sub) (shows known sub);
      stays = stays_then first v u l.stays stays;
      past = λ tell. past_then first.files.told v.files.told u.files.told (l.past tell) (past tell);
      later = omega (arith, l.later, later);
      few = omega (arith, l.few, length-append done (key ∷ []));
    }

    pub loop_absent : ((known : Bool) → (IsTrue known → IsTrue tells) → Shows Absent known sink key now v out u new)
        → Loop tells sink now before first faults u (done ++ key ∷ []) new count new_faults
    loop_absent shows = record {
      some = λ known sub. prints_absent known sink now before first v u done key out new count (l.some known sub) (shows known sub);
      stays = stays_then first v u l.stays stays;
      past = λ tell. past_then first.files.told v.files.told u.files.told (l.past tell) (past tell);
      later = omega (arith, l.later, later);
      few = omega (arith, l.few, length-append done (key ∷ []));
    }

-- the keys before one, that key and those behind it
pub at_key : (keys : List (List ℕ)) (i : ℕ) (key : List ℕ) → i < length keys → key ≡ get_or keys i key
    → keys ≡ (take i keys ++ key ∷ []) ++ drop (i + 1) keys
at_key keys i key inside is =
    sym (take-append-drop (i + 1) keys)
    ∙ ap (λ (l : List (List ℕ)). l ++ drop (i + 1) keys)
    (take_more keys i key inside ∙ ap (λ (k : List ℕ). take i keys ++ k ∷ []) (sym is))

pub until_key : (keys : List (List ℕ)) (i : ℕ) (key : List ℕ) → i < length keys → key ≡ get_or keys i key
    → take (i + 1) keys ≡ take i keys ++ key ∷ []
until_key keys i key inside is =
    take_more keys i key inside ∙ ap (λ (k : List ℕ). take i keys ++ k ∷ []) (sym is)
