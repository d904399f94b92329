-- The keys of a fold, one after the other.
use Rattle.std.proofs.Common.{◌≡◌, ◌∙◌, ℕ, zero, suc, ◌+◌, ◌<◌, ◌≤◌, Bool, true, false, List, []}
use Rattle.std.proofs.Common.{◌∷◌, ◌++◌, length, drop, min}
use Rattle.std.proofs.Common.{Option, Some, None, refl, sym, ap, subst, arith}
use Rattle.std.specs.Prelude.{IsTrue, Result, Ok, Err, cond, is_err, is_ok, slice_set}
use Rattle.std.proofs.lemmas.Bool.{true≢false}
use Rattle.std.proofs.lemmas.List.{map-append}
use Rattle.bk_base.specs.declared.calls.Answer.TheVariants.{Done, End}
use Rattle.bk_base.specs.declared.calls.Call.TheVariants.{FoldNext, Quiet}
use Rattle.bk_base.specs.declared.histories.Opening.{Opening}
use Rattle.bk_base.specs.declared.histories.Step.{Step}
use Rattle.bk_base.specs.declared.writes.Version.{Version}
use Rattle.bk_base.specs.declared.writes.Write.{Write}
use Rattle.bk_disk.specs.Causes.{bumped, most}
use Rattle.bk_exchange.specs.Listings.{Row, end_call}
use Rattle.bk_keydir.specs.declared.slots.Slot.{Slot}
use Rattle.bk_keydir.specs.Folds.{still_lists}
use Rattle.bk_keydir.specs.Keydir.{Entry, Shown as KeydirShown}
use Rattle.bk_files.specs.Files.{Seen}
use Rattle.bk_disk.specs.Told.{untold}
use Rattle.bk_keydir.specs.Slots.{past, slot_at, who_of}
use Rattle.bk_policy.specs.declared.settings.Settings.{Settings}
use Rattle.bk_store.specs.declared.errors.FoldError.{FoldError}
use Rattle.bk_store.specs.declared.errors.FoldError.TheVariants.{Disk as fold_disk, Memory as fold_memory, NoFold}
use Rattle.bk_store.specs.declared.folds.Row2.{Row2}
use Rattle.bk_store.specs.Events.{Keeps, KeepsPast, entry_by, quiet_by}
use Rattle.bk_store.specs.FoldEvents.{IsFoldError, LendsPair, ListsNext, lent_of, next_reply}
use Rattle.bk_store.specs.Standing.{StandsFor}
use Rattle.bk_laws.specs.History.{log_of}
use Rattle.bk_store.specs.Loans.{Lent, Views, ViewsNothing, view_of}
use Rattle.bk_store.specs.Shown.{Shown}
use Rattle.bk_store.proofs.Pasts.{past_same, past_then}
use Rattle.bk_session.specs.Listing.{IsOurs, IsUnmoved}
use Rattle.bk_session.proofs.Events.{Still, rises_by_faults}
use Rattle.bk_session.proofs.FoldCalls.{set_here, unmoved_nothing, unmoved_same}
use Rattle.bk_store.proofs.FoldSteps.{slot_within}
use Rattle.bk_session.proofs.FoldRows.{PairEvent, listed_with, lists_pair, pair_event_of, pair_ours}
use Rattle.bk_session.proofs.Following.{known_way}
use Rattle.bk_session.proofs.Reading.{still_files, views_past}
use Rattle.bk_list.specs.Gathering.{Gathers, MovesOn, Refuses}
use Rattle.bk_list.proofs.Calls.{plus_one}

-- ---- slots

pub set_same : (slots : List (Option Slot)) (n : ℕ) → slice_set slots n (slot_at slots n) ≡ slots
set_same [] n = refl
set_same (x ∷ slots) zero = refl
set_same (x ∷ slots) (suc n) = ap (λ (l : List (Option Slot)). x ∷ l) (set_same slots n)

pub set_twice : (slots : List (Option Slot)) (n : ℕ) (a b : Option Slot) → slice_set (slice_set slots n a) n b ≡ slice_set slots n b
set_twice [] n a b = refl
set_twice (x ∷ slots) zero a b = refl
set_twice (x ∷ slots) (suc n) a b = ap (λ (l : List (Option Slot)). x ∷ l) (set_twice slots n a b)

-- ---- what changes of the store

pub moves_none : (slot : ℕ) (v : Shown) → MovesOn slot v v
moves_none slot v = record {
  keys = ap (λ (l : List (Option Slot)). record v.keys { slots = l }) (sym (set_same v.keys.slots slot));
  seq = refl;
  settings = refl;
  catalog = refl;
  faults = omega arith;
  views = omega arith;
  outs = refl;
}

pub moves_then : (slot : ℕ) (v m u : Shown) → MovesOn slot v m → MovesOn slot m u → MovesOn slot v u
moves_then slot v m u a b = record {
  keys = b.keys
      ∙ ap (λ (k : KeydirShown). record k { slots = slice_set k.slots slot (slot_at u.keys.slots slot) }) a.keys
      ∙ ap (λ (l : List (Option Slot)). record v.keys { slots = l })
      (set_twice v.keys.slots slot (slot_at m.keys.slots slot) (slot_at u.keys.slots slot));
  seq = b.seq ∙ a.seq;
  settings = b.settings ∙ a.settings;
  catalog = b.catalog ∙ a.catalog;
  faults = omega (arith, a.faults, b.faults);
  views = omega (arith, a.views, b.views);
  outs = b.outs ∙ a.outs;
}

pub bumped_least : (b : Bool) (n : ℕ) → min n most ≤ bumped b n
bumped_least true n = omega arith
bumped_least false n = omega arith

pub moves_pair : {V : Type 0} (slot : ℕ) (v u : Shown) (row : Row2 V) → ListsNext 0 slot v u (Some row)
    → v.files.faults ≤ u.files.faults → u.files.fallible_views ≡ bumped row.loan.fallible v.files.fallible_views
    → u.files.fallible_outs ≡ v.files.fallible_outs → MovesOn slot v u
moves_pair slot v u row lists later views outs =
    let (s, there, pair) = lists_pair slot (slot_at v.keys.slots slot) v u row lists.4 in
    let slots : u.keys.slots ≡ slice_set v.keys.slots slot (Some (past pair.position s)) =
    ap (λ (k : KeydirShown). k.slots) pair.keys in
    let here : slot_at u.keys.slots slot ≡ Some (past pair.position s) =
    ap (λ (l : List (Option Slot)). slot_at l slot) slots
    ∙ set_here v.keys.slots slot (Some (past pair.position s)) (slot_within v.keys.slots slot s there) in
    record {
      keys = pair.keys ∙ ap (λ (x : Option Slot). record v.keys { slots = slice_set v.keys.slots slot x }) (sym here);
      seq = lists.1;
      settings = lists.2;
      catalog = lists.3;
      faults = later;
      views = omega (arith, bumped_least row.loan.fallible v.files.fallible_views, views);
      outs = outs;
    }

moves_files : (slot : ℕ) (v u : Shown) → u ≡ record v { files = u.files } → u.files.catalog ≡ v.files.catalog
    → v.files.faults ≤ u.files.faults → u.files.fallible_views ≡ v.files.fallible_views
    → u.files.fallible_outs ≡ v.files.fallible_outs → MovesOn slot v u
moves_files slot v u same catalog later views outs =
    let keys : u.keys ≡ v.keys = ap (λ (x : Shown). x.keys) same in
    record {
      keys = keys ∙ (moves_none slot v).keys
          ∙ ap (λ (k : KeydirShown). record v.keys { slots = slice_set v.keys.slots slot (slot_at k.slots slot) }) (sym keys);
      seq = ap (λ (x : Shown). x.seq) same;
      settings = ap (λ (x : Shown). x.settings) same;
      catalog = catalog;
      faults = later;
      views = omega (arith, views);
      outs = outs;
    }

pub moves_refused : (slot : ℕ) (v u : Shown) (e : FoldError) → IsFoldError 0 slot v u e → IsOurs slot v
    → v.files.faults ≤ u.files.faults → u.files.fallible_views ≡ v.files.fallible_views
    → u.files.fallible_outs ≡ v.files.fallible_outs → MovesOn slot v u
moves_refused slot v u (NoFold n) why ours later views outs = absurd (why.1 ours)
moves_refused slot v u fold_disk why ours later views outs = moves_files slot v u why.1 why.2 later views outs
moves_refused slot v u fold_memory why ours later views outs = moves_files slot v u why.1 why.2 later views outs

pub moves_same : (slot : ℕ) (v u : Shown) → u ≡ v → MovesOn slot v u
moves_same slot v u same = subst (λ (x : Shown). MovesOn slot v x) (sym same) (moves_none slot v)

-- ---- how many pairs are left

abbrev pub left_of : ℕ → Option Slot → List Entry → ℕ
left_of ttl None entries = 0
left_of ttl (Some s) entries = length (still_lists ttl s entries)

abbrev pub pairs_left : Shown → ℕ → ℕ
pairs_left v slot = left_of v.settings.ttl (slot_at v.keys.slots slot) v.keys.entries

pub fewer_left : {V : Type 0} (slot : ℕ) (v u : Shown) (row : Row2 V) → ListsNext 0 slot v u (Some row)
    → pairs_left u slot < pairs_left v slot
fewer_left slot v u row lists =
    let (s, there, pair) = lists_pair slot (slot_at v.keys.slots slot) v u row lists.4 in
    let s2 = past pair.position s in
    let ttl = v.settings.ttl in
    let slots : u.keys.slots ≡ slice_set v.keys.slots slot (Some s2) = ap (λ (k : KeydirShown). k.slots) pair.keys in
    let here : slot_at u.keys.slots slot ≡ Some s2 =
    ap (λ (l : List (Option Slot)). slot_at l slot) slots
    ∙ set_here v.keys.slots slot (Some s2) (slot_within v.keys.slots slot s there) in
    let now : pairs_left u slot ≡ length (still_lists ttl s2 v.keys.entries) =
    ap (λ (x : Settings). left_of x.ttl (slot_at u.keys.slots slot) u.keys.entries) lists.2
    ∙ ap (λ (o : Option Slot). left_of ttl o u.keys.entries) here
    ∙ ap (λ (k : KeydirShown). length (still_lists ttl s2 k.entries)) pair.keys in
    let before : pairs_left v slot ≡ length (still_lists ttl s2 v.keys.entries) + 1 =
    ap (λ (o : Option Slot). left_of ttl o v.keys.entries) there
    ∙ ap (λ (l : List (List ℕ × Version)). length l) pair.next.later
    ∙ one_more (still_lists ttl s2 v.keys.entries) in
    omega (arith, now, before)
  where
    one_more : (l : List (List ℕ × Version)) → suc (length l) ≡ length l + 1
    one_more l = omega arith

-- ---- a key more

module _ (slot : ℕ) (first : Shown) where
  -- what holds before each pair
  pub record Loop (tells : Bool) (v : Shown) (keys : List (List ℕ)) : Type 0 where
    pub gathered : (known : Bool) → (IsTrue known → IsTrue tells) → Gathers known slot [] first v keys
    pub ours : IsOurs slot v
    pub moved : MovesOn slot first v
    pub past : IsTrue tells → KeepsPast first.files.told v.files.told

  pub loop_begins : (tells : Bool) (keys : List (List ℕ)) → keys ≡ [] → IsOurs slot first → Loop tells first keys
  loop_begins tells keys none ours = record {
    gathered = λ known sub b steps l. record { rows = []; are = sym none; steps = steps; listed = l };
    ours = ours;
    moved = moves_none slot first;
    past = λ tell. past_same first.files.told first.files.told refl;
  }

  gathers_key : (known : Bool) (v u : Shown) (keys : List (List ℕ)) (key : List ℕ) (l : Lent) → Gathers known slot [] first v keys
      → PairEvent known slot v u key l → Gathers known slot [] first u (keys ++ key ∷ [])
  gathers_key known v u keys key l gathers e b steps begun =
      let g = gathers b steps begun in
      let value = drop l.value_at l.left in
      record {
        rows = g.rows ++ (record { key = key; value = value }) ∷ [];
        are = map-append (λ (row : Row). row.key) g.rows ((record { key = key; value = value }) ∷ [])
            ∙ ap (λ (ks : List (List ℕ)). ks ++ key ∷ []) g.are;
        steps = _;
        listed = listed_with known false slot v u key l e b g.rows g.steps value (λ tell. refl) g.listed;
      }

  pub loop_on : (tells : Bool) (v u : Shown) (keys : List (List ℕ)) (key : List ℕ) (l : Lent) → Loop tells v keys
      → PairEvent tells slot v u key l → PairEvent false slot v u key l → IsOurs slot u → MovesOn slot v u
      → (IsTrue tells → KeepsPast v.files.told u.files.told) → Loop tells u (keys ++ key ∷ [])
  loop_on tells v u keys key l loop told loose ours moved past = record {
    gathered = λ known sub.
        gathers_key known v u keys key l (loop.gathered known sub)
        (known_way known tells (λ (t : Bool). PairEvent t slot v u key l) sub told loose);
    ours = ours;
    moved = moves_then slot first v u loop.moved moved;
    past = λ tell. past_then first.files.told v.files.told u.files.told (loop.past tell) (past tell);
  }

  -- what the store said that it gave
  pub loop_pair : {V : Type 0} (tells : Bool) (v u : Shown) (keys : List (List ℕ)) (found : Option (Row2 V)) (row : Row2 V)
      → found ≡ Some row → ListsNext 0 slot v u found → v.files.faults ≤ u.files.faults
      → u.files.fallible_views ≡ view_of (lent_of found) v.files.fallible_views
      → u.files.fallible_outs ≡ v.files.fallible_outs
      → (IsTrue tells → Keeps tells (entry_by 0 (FoldNext slot) (next_reply found)) v u)
      → (IsTrue tells → Views (lent_of found) v.files.told u.files.told)
      → (IsTrue tells → (o : Opening) (h : List Step) (tried : List Write) → StandsFor v o h tried
      → LendsPair slot v (log_of o h) found)
      → Loop tells v keys → Loop tells u (keys ++ row.key ∷ [])
  loop_pair tells v u keys None row is lists later views outs keeps viewed lends l = absurd (cc is)
  loop_pair tells v u keys (Some r) row is lists later views outs keeps viewed lends l =
      let same : r ≡ row = cc is in
      let event : PairEvent tells slot v u r.key r.loan =
      pair_event_of tells slot v u (Some r) r refl lists later views outs keeps viewed lends in
      let loose : PairEvent false slot v u r.key r.loan =
      pair_event_of false slot v u (Some r) r refl lists later views outs (λ t. untold t) (λ t. untold t) (λ t. untold t) in
      subst (λ (x : Row2 _). Loop tells u (keys ++ x.key ∷ [])) same
      (loop_on tells v u keys r.key r.loan l event loose (pair_ours tells slot v u r.key r.loan event l.ours)
      (moves_pair slot v u r lists later views outs)
      (λ tell. views_past (Some r.loan) v.files.told u.files.told (viewed tell)))

  -- ---- the end, and a refusal

  module _ (known : Bool) (v u : Shown) (keys : List (List ℕ)) (gathers : Gathers known slot [] first v keys) where
    ends_with : u ≡ v → (IsTrue known → Keeps known (entry_by 0 (FoldNext slot) End) v u)
        → Gathers known slot (end_call slot ∷ []) first u keys
    ends_with same keeps b steps begun =
        let g = gathers b steps begun in
        let files : u.files ≡ v.files = ap (λ (x : Shown). x.files) same in
        let more = plus_one known v u (FoldNext slot) End 0
        (rises_by_faults v u (omega (arith, ap (λ (x : Seen). x.faults) files)) (ap (λ (x : Seen). x.fallible_views) files)
        (ap (λ (x : Seen). x.fallible_outs) files))
        (record {
          kept = record {
            settings = ap (λ (x : Shown). x.settings) same;
            limit = ap (λ (x : Seen). x.catalog.max_file) files;
          };
          seq = ap (λ (x : Shown). x.seq) same;
          slots = ap (λ (x : Shown). x.keys.slots) same;
        })
        (λ s. refl) keeps (λ tell. unmoved_same v.files.told u.files.told (ap (λ (x : Seen). x.told) files)) [] b slot g.rows g.steps
        g.listed in
        record { rows = g.rows; are = g.are; steps = more.steps; listed = more.listed }

    stops_with : Still v u → v.files.faults ≤ u.files.faults → u.files.fallible_views ≡ v.files.fallible_views
        → u.files.fallible_outs ≡ v.files.fallible_outs → (IsTrue known → Keeps known (quiet_by 0) v u)
        → (IsTrue known → IsUnmoved v.files.told u.files.told) → Refuses known slot first u
    stops_with still later views outs keeps unmoved b steps begun =
        let g = gathers b steps begun in
        let more = plus_one known v u Quiet Done 0 (rises_by_faults v u later views outs) still (λ s. refl) keeps unmoved [] b slot
        g.rows g.steps g.listed in
        record { given = g.rows; quiet = 1; few = omega arith; steps = more.steps; listed = more.listed }

  -- there was no memory for the key
  pub refuses_now : (known : Bool) (v : Shown) (keys : List (List ℕ)) → Gathers known slot [] first v keys
      → Refuses known slot first v
  refuses_now known v keys gathers b steps begun =
      let g = gathers b steps begun in
      record { given = g.rows; quiet = 0; few = omega arith; steps = g.steps; listed = g.listed }

  pub gathers_all : (tells known : Bool) → (IsTrue known → IsTrue tells) → (v u : Shown) (keys : List (List ℕ))
      → Loop tells v keys → u ≡ v → (IsTrue tells → Keeps tells (entry_by 0 (FoldNext slot) End) v u)
      → Gathers known slot (end_call slot ∷ []) first u keys
  gathers_all tells known sub v u keys l same keeps =
      known_way known tells (λ (t : Bool). Gathers t slot (end_call slot ∷ []) first u keys) sub
      (ends_with tells v u keys (l.gathered tells (λ t. t)) same keeps)
      (ends_with false v u keys (l.gathered false (λ t. untold t)) same (λ t. untold t))

  pub still_refused : (v u : Shown) (e : FoldError) → IsFoldError 0 slot v u e → IsOurs slot v → Still v u
  still_refused v u (NoFold n) why ours = absurd (why.1 ours)
  still_refused v u fold_disk why ours = still_files v u why.1 why.2
  still_refused v u fold_memory why ours = still_files v u why.1 why.2

  pub refuses_then : (tells known : Bool) → (IsTrue known → IsTrue tells) → (v u : Shown) (keys : List (List ℕ)) (e : FoldError)
      → Loop tells v keys → IsFoldError 0 slot v u e → v.files.faults ≤ u.files.faults
      → u.files.fallible_views ≡ v.files.fallible_views → u.files.fallible_outs ≡ v.files.fallible_outs
      → (IsTrue tells → Keeps tells (quiet_by 0) v u) → (IsTrue tells → ViewsNothing v.files.told u.files.told)
      → Refuses known slot first u
  refuses_then tells known sub v u keys e l why later views outs keeps nothing =
      let still = still_refused v u e why l.ours in
      known_way known tells (λ (t : Bool). Refuses t slot first u) sub
      (stops_with tells v u keys (l.gathered tells (λ t. t)) still later views outs keeps
      (λ tell. unmoved_nothing v.files.told u.files.told (nothing tell)))
      (stops_with false v u keys (l.gathered false (λ t. untold t)) still later views outs (λ t. untold t) (λ t. untold t))

  pub ours_then : (v u : Shown) (e : FoldError) → IsFoldError 0 slot v u e → IsOurs slot v → IsOurs slot u
  ours_then v u e why ours = ap (λ (l : List (Option Slot)). who_of (slot_at l slot)) (still_refused v u e why ours).slots ∙ ours

-- what a push that wasn't refused leaves
pub pushed : {T E X : Type 0} (r : Result T E) (now more same : List X) → is_err r ≡ false → now ≡ cond (is_ok r) more same
    → now ≡ more
pushed (Ok x) now more same is p = p
pushed (Err e) now more same is p = absurd (true≢false is)
