-- The number of keys whose newest version is a put is that of the log's map.
use Rattle.std.proofs.Common.{◌≡◌, ◌∙◌, ℕ, ◌+◌, Bool, true, false, cond, List, [], ◌∷◌, Option, Some, None, refl, sym, ap, subst, arith, inl, inr}
use Rattle.std.specs.Prelude.{sum_by, ◌||◌}
use Rattle.std.specs.List.{AllByRecursion, IsDistinct, list_any}
use Rattle.std.specs.Map.{keys_of}
use Rattle.std.specs.Option.{is_some}
use Rattle.std.specs.Str.{bytes_eq}
use Rattle.std.proofs.lemmas.Bool.{cases_Bool, true≢false}
use Rattle.std.proofs.lemmas.List.Sums.{sum_by-cons}
use Rattle.std.proofs.lemmas.Map.Keys.{IsDistinct-head, IsDistinct-tail}
use Rattle.bk_base.specs.declared.writes.Body.{Body}
use Rattle.bk_base.specs.declared.writes.Body.TheVariants.{Put, Gone}
use Rattle.bk_base.specs.declared.writes.Version.{Version}
use Rattle.bk_base.specs.declared.writes.Write.{Write}
use Rattle.bk_exchange.specs.Answers.{map_size, put_without}
use Rattle.bk_keydir.specs.Keydir.{Entry, newest_of, versions_of}
use Rattle.bk_laws.specs.Log.{or_else, put_in, put_of, winner}
use Rattle.bk_store.specs.Loans.{is_put}
use Rattle.bk_store.specs.Sweeps.{has_put}
use Rattle.bk_store.proofs.Keys.{key_is, key_refl, key_sym}
use Rattle.bk_laws.proofs.LastWrites.{or_else-none}

abbrev has_key : List ℕ → List Entry → Bool
has_key key es = list_any (bytes_eq key) (keys_of es)

abbrev one_if : Bool → ℕ
one_if b = cond b 1 0

abbrev how_many : (List ℕ → Bool) → List Entry → ℕ
how_many f [] = 0
how_many f (e ∷ es) = one_if (f e.0) + how_many f es

-- a key of the later ones isn't the first
apart_from : (key x : List ℕ) (keys : List (List ℕ)) → AllByRecursion (λ y. bytes_eq x y ≡ false) keys
    → list_any (bytes_eq key) keys ≡ true → bytes_eq key x ≡ false
apart_from key x [] all there = absurd (true≢false (sym there))
apart_from key x (k ∷ keys) all there =
    elim (cases_Bool (bytes_eq key k)) [
      | inl p ↦ key_sym key x ∙ ap (bytes_eq x) (key_is key k p) ∙ all.0
      | inr p ↦ apart_from key x keys all.1 (subst (λ (b : Bool). b || list_any (bytes_eq key) keys ≡ true) p there)
    ]

counts_puts : (f : List ℕ → Bool) (es : List Entry) → IsDistinct bytes_eq (keys_of es)
    → ((key : List ℕ) → has_key key es ≡ true → f key ≡ is_put (newest_of (versions_of key es)))
    → sum_by has_put es ≡ how_many f es
counts_puts f [] apart says = refl
counts_puts f (e ∷ es) apart says =
    let here : is_put (newest_of e.1) ≡ f e.0 =
    sym (says e.0 (ap (λ (b : Bool). b || has_key e.0 es) (key_refl e.0))
    ∙ ap (λ (b : Bool). is_put (newest_of (cond b e.1 (versions_of e.0 es)))) (key_refl e.0)) in
    let later : sum_by has_put es ≡ how_many f es = counts_puts f es (IsDistinct-tail bytes_eq e.0 (keys_of es) apart)
    (λ key there.
    let other : bytes_eq key e.0 ≡ false =
    apart_from key e.0 (keys_of es) (IsDistinct-head bytes_eq e.0 (keys_of es) apart) there in
    says key (ap (λ (b : Bool). b || has_key key es) other ∙ there)
    ∙ ap (λ (b : Bool). is_put (newest_of (cond b e.1 (versions_of key es)))) other) in
    sum_by-cons has_put e es
    ∙ ap (λ (b : Bool). one_if b + sum_by has_put es) here ∙ ap (λ (n : ℕ). one_if (f e.0) + n) later

-- ---- sums over keys

zero_plus : (n : ℕ) → 0 + n ≡ n
zero_plus n = omega arith

none_many : (f : List ℕ → Bool) (es : List Entry) → ((key : List ℕ) → f key ≡ false) → how_many f es ≡ 0
none_many f [] none = refl
none_many f (e ∷ es) none =
    ap (λ (b : Bool). one_if b + how_many f es) (none e.0) ∙ zero_plus (how_many f es) ∙ none_many f es none

same_many : (f g : List ℕ → Bool) (es : List Entry) → ((key : List ℕ) → f key ≡ g key) → how_many f es ≡ how_many g es
same_many f g [] same = refl
same_many f g (e ∷ es) same =
    ap (λ (b : Bool). one_if b + how_many f es) (same e.0) ∙ ap (λ (n : ℕ). one_if (g e.0) + n) (same_many f g es same)

-- none of these keys is x
without_many : (f g : List ℕ → Bool) (x : List ℕ) (es : List Entry) → AllByRecursion (λ y. bytes_eq x y ≡ false) (keys_of es)
    → ((key : List ℕ) → bytes_eq x key ≡ false → f key ≡ g key) → how_many f es ≡ how_many g es
without_many f g x [] all same = refl
without_many f g x (e ∷ es) all same =
    ap (λ (b : Bool). one_if b + how_many f es) (same e.0 all.0)
    ∙ ap (λ (n : ℕ). one_if (g e.0) + n) (without_many f g x es all.1 same)

-- one key more
more_many : (f g : List ℕ → Bool) (x : List ℕ) (es : List Entry) → IsDistinct bytes_eq (keys_of es) → has_key x es ≡ true
    → f x ≡ true → g x ≡ false → ((key : List ℕ) → bytes_eq x key ≡ false → f key ≡ g key)
    → how_many f es ≡ 1 + how_many g es
more_many f g x [] apart there it_has it_has_not same = absurd (true≢false (sym there))
more_many f g x (e ∷ es) apart there it_has it_has_not same =
    elim (cases_Bool (bytes_eq x e.0)) [
      | inl p ↦
          let is : x ≡ e.0 = key_is x e.0 p in
          let yes_here : f e.0 ≡ true = ap f (sym is) ∙ it_has in
          let no_here : g e.0 ≡ false = ap g (sym is) ∙ it_has_not in
          let later = without_many f g e.0 es (IsDistinct-head bytes_eq e.0 (keys_of es) apart)
          (subst (λ (y : List ℕ). (key : List ℕ) → bytes_eq y key ≡ false → f key ≡ g key) is same) in
          ap (λ (b : Bool). one_if b + how_many f es) yes_here ∙ ap (λ (n : ℕ). 1 + n) later
          ∙ ap (λ (n : ℕ). 1 + n) (sym (zero_plus (how_many g es)))
          ∙ ap (λ (b : Bool). 1 + (one_if b + how_many g es)) (sym no_here)
      | inr p ↦
          let later : how_many f es ≡ 1 + how_many g es =
          more_many f g x es (IsDistinct-tail bytes_eq e.0 (keys_of es) apart)
          (subst (λ (b : Bool). b || has_key x es ≡ true) p there) it_has it_has_not same in
          let here : one_if (f e.0) ≡ one_if (g e.0) = ap one_if (same e.0 p) in
          omega (arith, later, here)
    ]

-- ---- the log

abbrev has_value : List Write → List ℕ → Bool
has_value log key = is_some (put_of (winner log key))

or_found : (a b : Option Write) (w : Write) → a ≡ Some w → or_else a b ≡ a
or_found None b w is = absurd (cc is)
or_found (Some v) b w is = refl

-- a write of a later put changes nothing
hidden : (w : Write) (ws : List Write) (later : Write) (key : List ℕ) → winner ws w.key ≡ Some later
    → winner (w ∷ ws) key ≡ winner ws key
hidden w ws later key is =
    elim (cases_Bool (bytes_eq w.key key)) [
      | inl p ↦ or_found (winner ws key) (cond (bytes_eq w.key key) (Some w) None) later
          (ap (winner ws) (sym (key_is w.key key p)) ∙ is)
      | inr p ↦ ap (λ (b : Bool). or_else (winner ws key) (cond b (Some w) None)) p ∙ or_else-none (winner ws key)
    ]

other_winner : (w : Write) (ws : List Write) (key : List ℕ) → bytes_eq w.key key ≡ false
    → winner (w ∷ ws) key ≡ winner ws key
other_winner w ws key p =
    ap (λ (b : Bool). or_else (winner ws key) (cond b (Some w) None)) p ∙ or_else-none (winner ws key)

own_winner : (w : Write) (ws : List Write) → winner ws w.key ≡ None → winner (w ∷ ws) w.key ≡ Some w
own_winner w ws none =
    ap (λ (o : Option Write). or_else o (cond (bytes_eq w.key w.key) (Some w) None)) none
    ∙ ap (λ (b : Bool). cond b (Some w) None) (key_refl w.key)

-- what holds of the rest of a log
abbrev CountsRest : List Write → List Entry → Type 0
CountsRest ws es = ((key : List ℕ) → has_value ws key ≡ true → has_key key es ≡ true) → how_many (has_value ws) es ≡ map_size ws

nothing_more : (b : Body) (x : Write) → put_without b (Some x) ≡ 0
nothing_more (Put value) x = refl
nothing_more Gone x = refl

many_hidden : (w : Write) (ws : List Write) (later : Write) (es : List Entry) → winner ws w.key ≡ Some later
    → ((key : List ℕ) → has_value (w ∷ ws) key ≡ true → has_key key es ≡ true) → CountsRest ws es
    → how_many (has_value (w ∷ ws)) es ≡ put_without w.body (winner ws w.key) + map_size ws
many_hidden w ws later es found all rest =
    let same : (key : List ℕ) → has_value (w ∷ ws) key ≡ has_value ws key =
    λ key. ap (λ (o : Option Write). is_some (put_of o)) (hidden w ws later key found) in
    let none : put_without w.body (winner ws w.key) ≡ 0 = ap (put_without w.body) found ∙ nothing_more w.body later in
    same_many (has_value (w ∷ ws)) (has_value ws) es same ∙ rest (λ key has. all key (same key ∙ has))
    ∙ sym (zero_plus (map_size ws)) ∙ ap (λ (n : ℕ). n + map_size ws) (sym none)

-- the writes before had no put of this key
still_there : (w : Write) (ws : List Write) (es : List Entry)
    → ((key : List ℕ) → has_value (w ∷ ws) key ≡ true → has_key key es ≡ true) → has_value ws w.key ≡ false
    → ((key : List ℕ) → bytes_eq w.key key ≡ false → has_value (w ∷ ws) key ≡ has_value ws key)
    → (key : List ℕ) → has_value ws key ≡ true → has_key key es ≡ true
still_there w ws es all never same key has =
    elim (cases_Bool (bytes_eq w.key key)) [
      | inl p ↦ absurd (true≢false (sym has ∙ ap (has_value ws) (sym (key_is w.key key p)) ∙ never))
      | inr p ↦ all key (same key p ∙ has)
    ]

others_same : (w : Write) (ws : List Write) (key : List ℕ) → bytes_eq w.key key ≡ false
    → has_value (w ∷ ws) key ≡ has_value ws key
others_same w ws key p = ap (λ (o : Option Write). is_some (put_of o)) (other_winner w ws key p)

many_put : (w : Write) (ws : List Write) (value : List ℕ) (es : List Entry) → IsDistinct bytes_eq (keys_of es)
    → winner ws w.key ≡ None → w.body ≡ Put value
    → ((key : List ℕ) → has_value (w ∷ ws) key ≡ true → has_key key es ≡ true) → CountsRest ws es
    → how_many (has_value (w ∷ ws)) es ≡ put_without w.body (winner ws w.key) + map_size ws
many_put w ws value es apart none body all rest =
    let it_has : has_value (w ∷ ws) w.key ≡ true =
    ap (λ (o : Option Write). is_some (put_of o)) (own_winner w ws none) ∙ ap (λ (b : Body). is_some (put_in w b)) body in
    let never : has_value ws w.key ≡ false = ap (λ (o : Option Write). is_some (put_of o)) none in
    let one : put_without w.body (winner ws w.key) ≡ 1 =
    ap (λ (b : Body). put_without b (winner ws w.key)) body ∙ ap (put_without (Put value)) none in
    more_many (has_value (w ∷ ws)) (has_value ws) w.key es apart (all w.key it_has) it_has never (others_same w ws)
    ∙ ap (λ (n : ℕ). 1 + n) (rest (still_there w ws es all never (others_same w ws)))
    ∙ ap (λ (n : ℕ). n + map_size ws) (sym one)

still_none : (w : Write) (ws : List Write) → has_value ws w.key ≡ false → has_value (w ∷ ws) w.key ≡ false → (key : List ℕ)
    → has_value (w ∷ ws) key ≡ has_value ws key
still_none w ws never gone key =
    elim (cases_Bool (bytes_eq w.key key)) [
      | inl p ↦
          let is : key ≡ w.key = sym (key_is w.key key p) in
          ap (has_value (w ∷ ws)) is ∙ gone ∙ sym never ∙ ap (has_value ws) (sym is)
      | inr p ↦ others_same w ws key p
    ]

many_gone : (w : Write) (ws : List Write) (es : List Entry) → winner ws w.key ≡ None → w.body ≡ Gone
    → ((key : List ℕ) → has_value (w ∷ ws) key ≡ true → has_key key es ≡ true) → CountsRest ws es
    → how_many (has_value (w ∷ ws)) es ≡ put_without w.body (winner ws w.key) + map_size ws
many_gone w ws es none body all rest =
    let never : has_value ws w.key ≡ false = ap (λ (o : Option Write). is_some (put_of o)) none in
    let gone : has_value (w ∷ ws) w.key ≡ false =
    ap (λ (o : Option Write). is_some (put_of o)) (own_winner w ws none) ∙ ap (λ (b : Body). is_some (put_in w b)) body in
    let none_more : put_without w.body (winner ws w.key) ≡ 0 = ap (λ (b : Body). put_without b (winner ws w.key)) body in
    same_many (has_value (w ∷ ws)) (has_value ws) es (still_none w ws never gone)
    ∙ rest (λ key has. all key (still_none w ws never gone key ∙ has)) ∙ sym (zero_plus (map_size ws))
    ∙ ap (λ (n : ℕ). n + map_size ws) (sym none_more)

many_on : (w : Write) (ws : List Write) (es : List Entry) → IsDistinct bytes_eq (keys_of es)
    → ((key : List ℕ) → has_value (w ∷ ws) key ≡ true → has_key key es ≡ true) → CountsRest ws es
    → how_many (has_value (w ∷ ws)) es ≡ put_without w.body (winner ws w.key) + map_size ws
many_on w ws es apart all rest = go (winner ws w.key) refl w.body refl where
  go : (o : Option Write) → winner ws w.key ≡ o → (b : Body) → w.body ≡ b
      → how_many (has_value (w ∷ ws)) es ≡ put_without w.body (winner ws w.key) + map_size ws
  go (Some later) found b body = many_hidden w ws later es found all rest
  go None none (Put value) body = many_put w ws value es apart none body all rest
  go None none Gone body = many_gone w ws es none body all rest

puts_many : (log : List Write) (es : List Entry) → IsDistinct bytes_eq (keys_of es)
    → ((key : List ℕ) → has_value log key ≡ true → has_key key es ≡ true) → how_many (has_value log) es ≡ map_size log
puts_many [] es apart all = none_many (has_value []) es (λ key. refl)
puts_many (w ∷ ws) es apart all = many_on w ws es apart all (puts_many ws es apart)

-- a key that isn't among the entries has no version
no_versions : (key : List ℕ) (es : List Entry) → has_key key es ≡ false → versions_of key es ≡ []
no_versions key [] absent = refl
no_versions key (e ∷ es) absent =
    elim (cases_Bool (bytes_eq key e.0)) [
      | inl p ↦ absurd (true≢false (sym (ap (λ (b : Bool). b || has_key key es) p) ∙ absent))
      | inr p ↦
          ap (λ (b : Bool). cond b e.1 (versions_of key es)) p
          ∙ no_versions key es (sym (ap (λ (b : Bool). b || has_key key es) p) ∙ absent)
    ]

pub size_is : (es : List Entry) (log : List Write) → IsDistinct bytes_eq (keys_of es)
    → ((key : List ℕ) → has_value log key ≡ is_put (newest_of (versions_of key es))) → sum_by has_put es ≡ map_size log
size_is es log apart says =
    counts_puts (has_value log) es apart (λ key there. says key)
    ∙ puts_many log es apart (λ key has. among key has)
  where
    among : (key : List ℕ) → has_value log key ≡ true → has_key key es ≡ true
    among key has =
        elim (cases_Bool (has_key key es)) [
          | inl p ↦ p
          | inr p ↦ absurd (true≢false (sym has ∙ says key ∙ ap (λ (vs : List Version). is_put (newest_of vs)) (no_versions key es p)))
        ]
