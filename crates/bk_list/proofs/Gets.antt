-- One key more: it is located, and its pair is gathered.
use Rattle.std.proofs.Common.{◌≡◌, ◌∙◌, ℕ, ◌-◌, ◌≤◌, Bool, true, false, List, [], ◌∷◌, ◌++◌, drop, min}
use Rattle.std.proofs.Common.{Option, Some, None, refl, sym, ap, subst, arith}
use Rattle.std.specs.Prelude.{IsTrue, Result, Err}
use Rattle.std.proofs.lemmas.List.{append-nil}
use Rattle.bk_base.specs.declared.calls.Answer.TheVariants.{Done, Found, Nothing}
use Rattle.bk_base.specs.declared.calls.Call.TheVariants.{Get, Quiet}
use Rattle.bk_base.specs.declared.histories.Opening.{Opening}
use Rattle.bk_base.specs.declared.histories.Step.{Step}
use Rattle.bk_base.specs.declared.numbers.Moment.{Moment}
use Rattle.bk_base.specs.declared.requests.Reply.TheVariants.{Pair}
use Rattle.bk_base.specs.declared.writes.Write.{Write}
use Rattle.bk_disk.specs.Causes.{Rose, bumped, most}
use Rattle.bk_exchange.specs.Listings.{Row}
use Rattle.bk_exchange.specs.Points.{Said, heard}
use Rattle.bk_laws.specs.History.{State, changed, log_of}
use Rattle.bk_laws.specs.Log.{winner}
use Rattle.bk_laws.specs.Wire.{reply_text}
use Rattle.bk_session.specs.declared.outbox.Unread.{Unread}
use Rattle.bk_session.specs.declared.outbox.Unread.TheVariants.{Sink as sink_failed, Memory as no_memory, Read, Damaged as is_damaged}
use Rattle.bk_session.specs.Following.{Follows}
use Rattle.bk_session.specs.Listing.{Begun, IsUnmoved, Listed}
use Rattle.bk_session.specs.Outgoing.{IsUnread, Outgoing, Sends, Stops}
use Rattle.bk_session.proofs.Events.{Rises, Still, rises_by_faults}
use Rattle.bk_session.proofs.FoldCalls.{unmoved_nothing, unmoved_views}
use Rattle.bk_session.proofs.Following.{known_way}
use Rattle.bk_session.proofs.Reading.{rises_by_view, still_files}
use Rattle.bk_store.specs.declared.errors.LocateError.{LocateError}
use Rattle.bk_store.specs.Events.{Keeps, entry_by, quiet_by}
use Rattle.bk_store.specs.Loans.{Lent, LendsWrite, Views, ViewsNothing, check_of, get_reply, view_of}
use Rattle.bk_store.specs.Shown.{Shown}
use Rattle.bk_store.specs.Standing.{StandsFor}
use Rattle.bk_disk.specs.Told.{untold}
use Rattle.bk_list.specs.declared.printing.Shown.TheVariants.{Row as shown_row, Absent, Unread as is_unread, Refused}
use Rattle.bk_list.proofs.Calls.{plus_one}
use Rattle.bk_list.proofs.Gathers.{bumped_least}
use Rattle.bk_list.specs.Getting.{GoesTo, Shows, Stays}
use Rattle.bk_list.specs.Printing.{answer_of, asked, get_call}
use Rattle.std.proofs.lemmas.Bool.{false_from_ne_true}
use Rattle.bk_store.proofs.Lending.{lent_checked}

got_changes : (key : List ℕ) (now : Moment) (found : Option (List ℕ)) (s : State) → changed 0 (Get key now) (answer_of found) s ≡ s
got_changes key now None s = refl
got_changes key now (Some value) s = refl

got_heard : (key : List ℕ) (now : Moment) (found : Option (List ℕ))
    → heard (Get key now) (answer_of found) ≡ get_call now (asked key found) ∷ []
got_heard key now None = refl
got_heard key now (Some value) = refl

-- a get that found a value or none
module _ (known : Bool) (v u : Shown) (key : List ℕ) (now : Moment) (views : ℕ)
    (rises : Rises v u (u.files.faults - v.files.faults) views) (still : Still v u)
    (unmoved : IsTrue known → IsUnmoved v.files.told u.files.told) (found : Option (List ℕ))
    (keeps : IsTrue known → Keeps known (entry_by 0 (Get key now) (answer_of found)) v u) where
  got : (b : Begun) (slot : ℕ) (given : List Row) (behind : List Said) (steps : List Step)
      → Listed known b slot v given behind 0 steps
      → GoesTo known b slot u given (behind ++ get_call now (asked key found) ∷ []) 0
  got b slot given behind steps l =
      subst (λ (said : List Said). GoesTo known b slot u given (behind ++ said) 0) (got_heard key now found)
      (plus_one known v u (Get key now) (answer_of found) views rises still (got_changes key now found) keeps unmoved behind b slot
      given steps l)

-- ---- what a locate gave

module _ (known : Bool) (v u : Shown) (key : List ℕ) (now : Moment) (same : u ≡ record v { files = u.files })
    (catalog : u.files.catalog ≡ v.files.catalog) (later : v.files.faults ≤ u.files.faults)
    (outs : u.files.fallible_outs ≡ v.files.fallible_outs) where
  pub shows_absent : (sink : Bool) (out : Outgoing) → u.files.fallible_views ≡ v.files.fallible_views
      → (IsTrue known → IsUnmoved v.files.told u.files.told)
      → (IsTrue known → (who : ℕ) → Keeps known (entry_by who (Get key now) Nothing) v u)
      → Shows Absent known sink key now v out u out
  shows_absent sink out views unmoved keeps b slot given behind steps l = (
    got known v u key now 0 (rises_by_faults v u later views outs) (still_files v u same catalog) unmoved None
        (λ tell. keeps tell 0) b slot given behind steps l,
    refl,
  )

  module _ (l : Lent) (views : u.files.fallible_views ≡ bumped l.fallible v.files.fallible_views)
      (unmoved : IsTrue known → IsUnmoved v.files.told u.files.told)
      (keeps : IsTrue known → (who : ℕ) → Keeps known (entry_by who (Get key now) (Found (drop l.value_at l.left))) v u) where
    found_with : (value : List ℕ) → (IsTrue known → value ≡ drop l.value_at l.left)
        → (b : Begun) (slot : ℕ) (given : List Row) (behind : List Said) (steps : List Step)
        → Listed known b slot v given behind 0 steps
        → GoesTo known b slot u given (behind ++ get_call now (asked key (Some value)) ∷ []) 0
    found_with value is =
        let r = rises_by_view l.fallible v u later views outs in
        got known v u key now r.n r.rises (still_files v u same catalog) unmoved (Some value)
        (λ tell. subst (λ (x : List ℕ). Keeps known (entry_by 0 (Get key now) (Found x)) v u) (sym (is tell)) (keeps tell 0))

    pub shows_row : (sees sink : Bool) (out new : Outgoing) → (IsTrue known → IsTrue sees)
        → ((value : List ℕ) × (IsTrue sees → value ≡ drop l.value_at l.left) × (IsTrue sink → Sends out (reply_text (Pair key value)) new))
        → Shows shown_row known sink key now v out u new
    shows_row sees sink out new hears (value, is, sent) b slot given behind steps listed =
        (value, found_with value (λ tell. is (hears tell)) b slot given behind steps listed, sent)

    pub shows_stopped : (sees sink : Bool) (out new : Outgoing) → (IsTrue known → IsTrue sees)
        → ((value : List ℕ) × (IsTrue sees → value ≡ drop l.value_at l.left) × (IsTrue sink → Stops out (reply_text (Pair key value)) new))
        → Shows (is_unread sink_failed) known sink key now v out u new
    shows_stopped sees sink out new hears (value, is, stopped) b slot given behind steps listed =
        (value, found_with value (λ tell. is (hears tell)) b slot given behind steps listed, stopped)

    unknown_of : (IsTrue known → ⊥) → known ≡ false
    unknown_of = false_from_ne_true known

    pub shows_unread : (sees sink : Bool) (why : Unread) (out new : Outgoing) → (IsTrue known → IsTrue sees)
        → (why ≡ sink_failed → ⊥) → IsUnread sees l why → new ≡ out
        → (IsTrue known → (b : Begun) (steps : List Step) → Follows known v b.opening (b.before ++ steps) b.tried → check_of l.left ≡ l.crc)
        → Shows (is_unread why) known sink key now v out u new
    shows_unread sees sink sink_failed out new hears other unread rest whole b slot given behind steps listed = absurd (other refl)
    shows_unread sees sink no_memory out new hears other unread rest whole b slot given behind steps listed =
        (drop l.value_at l.left, found_with (drop l.value_at l.left) (λ tell. refl) b slot given behind steps listed, rest)
    shows_unread sees sink Read out new hears other unread rest whole b slot given behind steps listed =
        (drop l.value_at l.left, found_with (drop l.value_at l.left) (λ tell. refl) b slot given behind steps listed, rest)
    shows_unread sees sink (is_damaged damage) out new hears other unread rest whole b slot given behind steps listed = (
      drop l.value_at l.left,
      found_with (drop l.value_at l.left) (λ tell. refl) b slot given behind steps listed,
      (
        rest,
        unread.2,
        unknown_of (λ tell. unread.2 (unread.3 ∙ sym (whole tell b steps listed.follows) ∙ sym (unread.4 (hears tell)))),
      ),
    )

  pub shows_refused : (sink : Bool) (error : LocateError) (out : Outgoing) → u.files.fallible_views ≡ v.files.fallible_views
      → (IsTrue known → IsUnmoved v.files.told u.files.told) → (IsTrue known → (who : ℕ) → Keeps known (quiet_by who) v u)
      → Shows (Refused error) known sink key now v out u out
  shows_refused sink error out views unmoved keeps b slot given behind steps l = (
    subst (λ (said : List Said). GoesTo known b slot u given said 1) (append-nil behind)
        (plus_one known v u Quiet Done 0 (rises_by_faults v u later views outs) (still_files v u same catalog) (λ s. refl)
        (λ tell. keeps tell 0) unmoved behind b slot given steps l),
    refl,
  )

-- ---- over a disk that may tell

-- a locate that found this loan
pub record IsFound (tells : Bool) (key : List ℕ) (now : Moment) (v u : Shown) (l : Lent) : Type 0 where
  pub same : u ≡ record v { files = u.files }
  pub catalog : u.files.catalog ≡ v.files.catalog
  pub later : v.files.faults ≤ u.files.faults
  pub outs : u.files.fallible_outs ≡ v.files.fallible_outs
  pub views : u.files.fallible_views ≡ bumped l.fallible v.files.fallible_views
  pub unmoved : IsTrue tells → IsUnmoved v.files.told u.files.told
  pub keeps : IsTrue tells → (who : ℕ) → Keeps tells (entry_by who (Get key now) (Found (drop l.value_at l.left))) v u
  pub whole : IsTrue tells → (o : Opening) (h : List Step) (tried : List Write) → StandsFor v o h tried
      → check_of l.left ≡ l.crc

pub found_of : (tells : Bool) (key : List ℕ) (now : Moment) (v u : Shown) (found : Option Lent) (l : Lent) → found ≡ Some l
    → u ≡ record v { files = u.files } → u.files.catalog ≡ v.files.catalog → v.files.faults ≤ u.files.faults
    → u.files.fallible_outs ≡ v.files.fallible_outs → u.files.fallible_views ≡ view_of found v.files.fallible_views
    → (IsTrue tells → Views found v.files.told u.files.told)
    → (IsTrue tells → (who : ℕ) → Keeps tells (entry_by who (Get key now) (get_reply found)) v u)
    → (IsTrue tells → (o : Opening) (h : List Step) (tried : List Write) → StandsFor v o h tried
    → LendsWrite (winner (log_of o h) key) found)
    → IsFound tells key now v u l
found_of tells key now v u found l is same catalog later outs views viewed keeps lends = record {
  same = same;
  catalog = catalog;
  later = later;
  outs = outs;
  views = subst (λ (x : Option Lent). u.files.fallible_views ≡ view_of x v.files.fallible_views) is views;
  unmoved = λ tell. unmoved_views found v.files.told u.files.told (viewed tell);
  keeps = λ tell. subst (λ (x : Option Lent). (who : ℕ) → Keeps tells (entry_by who (Get key now) (get_reply x)) v u) is (keeps tell);
  whole = λ tell o h tried stood.
      lent_checked (winner (log_of o h) key) l
      (subst (LendsWrite (winner (log_of o h) key)) is (lends tell o h tried stood));
}

found_known : (known tells : Bool) (key : List ℕ) (now : Moment) (v u : Shown) (l : Lent) → (IsTrue known → IsTrue tells)
    → IsFound tells key now v u l → IsFound known key now v u l
found_known known tells key now v u l sub f =
    known_way known tells (λ (t : Bool). IsFound t key now v u l) sub f (record {
      same = f.same;
      catalog = f.catalog;
      later = f.later;
      outs = f.outs;
      views = f.views;
      unmoved = λ t. untold t;
      keeps = λ t. untold t;
      whole = λ t. untold t;
    })

module _ (known tells sees sink : Bool) (sub : IsTrue known → IsTrue tells) (hears : IsTrue tells → IsTrue sees) (key : List ℕ)
    (now : Moment) (v u : Shown) (l : Lent) (f : IsFound tells key now v u l) where
  pub row_shown : (out new : Outgoing)
      → ((value : List ℕ) × (IsTrue sees → value ≡ drop l.value_at l.left) × (IsTrue sink → Sends out (reply_text (Pair key value)) new))
      → Shows shown_row known sink key now v out u new
  row_shown out new sent =
      let k = found_known known tells key now v u l sub f in
      shows_row known v u key now k.same k.catalog k.later k.outs l k.views k.unmoved k.keeps sees sink out new
      (λ tell. hears (sub tell)) sent

  pub not_shown : (r : Result (Unit {0}) Unread) (why : Unread) (out new : Outgoing) → r ≡ Err why
      → (r ≡ Err sink_failed → (value : List ℕ) × (IsTrue sees → value ≡ drop l.value_at l.left)
      × (IsTrue sink → Stops out (reply_text (Pair key value)) new))
      → IsUnread sees l why → ((r ≡ Err sink_failed → ⊥) → new ≡ out)
      → Shows (is_unread why) known sink key now v out u new
  not_shown r sink_failed out new is stopped unread rest =
      let k = found_known known tells key now v u l sub f in
      shows_stopped known v u key now k.same k.catalog k.later k.outs l k.views k.unmoved k.keeps sees sink out new
      (λ tell. hears (sub tell)) (stopped is)
  not_shown r no_memory out new is stopped unread rest =
      let k = found_known known tells key now v u l sub f in
      shows_unread known v u key now k.same k.catalog k.later k.outs l k.views k.unmoved k.keeps sees sink no_memory out new
      (λ tell. hears (sub tell)) (λ never. cc never) unread (rest (λ never. other is never))
      (λ tell b steps follows. k.whole tell b.opening (b.before ++ steps) b.tried (follows.stands tell))
    where
      other : r ≡ Err no_memory → r ≡ Err sink_failed → ⊥
      other a b = cc
  not_shown r Read out new is stopped unread rest =
      let k = found_known known tells key now v u l sub f in
      shows_unread known v u key now k.same k.catalog k.later k.outs l k.views k.unmoved k.keeps sees sink Read out new
      (λ tell. hears (sub tell)) (λ never. cc never) unread (rest (λ never. other is never))
      (λ tell b steps follows. k.whole tell b.opening (b.before ++ steps) b.tried (follows.stands tell))
    where
      other : r ≡ Err Read → r ≡ Err sink_failed → ⊥
      other a b = cc
  not_shown r (is_damaged damage) out new is stopped unread rest =
      let k = found_known known tells key now v u l sub f in
      shows_unread known v u key now k.same k.catalog k.later k.outs l k.views k.unmoved k.keeps sees sink
      (is_damaged damage) out new
      (λ tell. hears (sub tell)) (λ never. cc never) unread (rest (λ never. other is never))
      (λ tell b steps follows. k.whole tell b.opening (b.before ++ steps) b.tried (follows.stands tell))
    where
      other : r ≡ Err (is_damaged damage) → r ≡ Err sink_failed → ⊥
      other a b = cc

pub none_shown : (known tells sink : Bool) (sub : IsTrue known → IsTrue tells) (key : List ℕ) (now : Moment) (v u : Shown)
    (found : Option Lent) (out : Outgoing) → found ≡ None → u ≡ record v { files = u.files }
    → u.files.catalog ≡ v.files.catalog → v.files.faults ≤ u.files.faults
    → u.files.fallible_outs ≡ v.files.fallible_outs → u.files.fallible_views ≡ view_of found v.files.fallible_views
    → (IsTrue tells → Views found v.files.told u.files.told)
    → (IsTrue tells → (who : ℕ) → Keeps tells (entry_by who (Get key now) (get_reply found)) v u)
    → Shows Absent known sink key now v out u out
none_shown known tells sink sub key now v u found out is same catalog later outs views viewed keeps =
    let still = subst (λ (x : Option Lent). u.files.fallible_views ≡ view_of x v.files.fallible_views) is views in
    known_way known tells (λ (t : Bool). Shows Absent t sink key now v out u out) sub
    (shows_absent tells v u key now same catalog later outs sink out still
    (λ tell. unmoved_views found v.files.told u.files.told (viewed tell))
    (λ tell. subst (λ (x : Option Lent). (who : ℕ) → Keeps tells (entry_by who (Get key now) (get_reply x)) v u) is (keeps tell)))
    (shows_absent false v u key now same catalog later outs sink out still (λ t. untold t) (λ t. untold t))

pub refused_shown : (known tells sink : Bool) (sub : IsTrue known → IsTrue tells) (key : List ℕ) (now : Moment) (v u : Shown)
    (error : LocateError) (out : Outgoing) → u ≡ record v { files = u.files } → u.files.catalog ≡ v.files.catalog
    → v.files.faults ≤ u.files.faults → u.files.fallible_outs ≡ v.files.fallible_outs
    → u.files.fallible_views ≡ v.files.fallible_views → (IsTrue tells → ViewsNothing v.files.told u.files.told)
    → (IsTrue tells → (who : ℕ) → Keeps tells (quiet_by who) v u)
    → Shows (Refused error) known sink key now v out u out
refused_shown known tells sink sub key now v u error out same catalog later outs views nothing keeps =
    known_way known tells (λ (t : Bool). Shows (Refused error) t sink key now v out u out) sub
    (shows_refused tells v u key now same catalog later outs sink error out views
    (λ tell. unmoved_nothing v.files.told u.files.told (nothing tell)) keeps)
    (shows_refused false v u key now same catalog later outs sink error out views (λ t. untold t) (λ t. untold t))

-- ---- the store

pub stays_found : (v u : Shown) (b : Bool) → u ≡ record v { files = u.files } → u.files.catalog ≡ v.files.catalog
    → v.files.faults ≤ u.files.faults → u.files.fallible_views ≡ bumped b v.files.fallible_views
    → u.files.fallible_outs ≡ v.files.fallible_outs → Stays v u
stays_found v u b same catalog later views outs = record {
  same = same;
  catalog = catalog;
  faults = later;
  views = omega (arith, bumped_least b v.files.fallible_views, views);
  outs = outs;
}

pub stays_none : (v : Shown) → Stays v v
stays_none v = record {
  same = refl;
  catalog = refl;
  faults = omega arith;
  views = omega arith;
  outs = refl;
}

pub stays_then : (v m u : Shown) → Stays v m → Stays m u → Stays v u
stays_then v m u a b = record {
  same = b.same ∙ ap (λ (x : Shown). record x { files = u.files }) a.same;
  catalog = b.catalog ∙ a.catalog;
  faults = omega (arith, a.faults, b.faults);
  views = omega (arith, a.views, b.views);
  outs = b.outs ∙ a.outs;
}

-- a count of views that rose at a later key rose since the first
pub rose_then : (before v u : ℕ) → min before most ≤ v → Rose v u → Rose before u
rose_then before v u low rose = omega (arith, low, rose)

pub rose_bumped : (v u : ℕ) → u ≡ bumped true v → Rose v u
rose_bumped v u is = omega (arith, is)
