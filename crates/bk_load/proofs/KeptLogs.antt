-- Where the same bytes count with the same hints, the log stays.
use Rattle.std.proofs.Common.{◌≡◌, ℕ, ◌≤◌, Bool, true, cond, List, [], length, Option, Some, None, refl, sym, ap, subst, ◌∙◌}
use Rattle.std.specs.Option.{is_some, unwrap_or}
use Rattle.bk_base.specs.declared.names.Kind.{Kind}
use Rattle.bk_base.specs.declared.names.Kind.TheVariants.{Main, MainTemp}
use Rattle.bk_base.specs.declared.names.Name.{Name}
use Rattle.bk_base.specs.declared.writes.Write.{Write}
use Rattle.bk_disk.specs.Told.{Image, Told, at, clock}
use Rattle.bk_disk.specs.Crashes.{IsSynced, MayLeave, fronts_at}
use Rattle.bk_image.specs.CountedFiles.{Counts, CountsAs}
use Rattle.bk_image.specs.Readings.{Books, IsThere, Reading, bytes_in, hint, main, main_temp}
use Rattle.bk_image.specs.RecoveredLog.{AreOnce, HintTrue, HintsTrue, Recovers}
use Rattle.bk_image.specs.SoundDirectory.{IsSound}
use Rattle.bk_laws.specs.Record.{AreRecords}
use Rattle.bk_load.specs.Tidying.{CountsWith, Goes, Tidied}
use Rattle.std.proofs.lemmas.Bool.{false_from_ne_true}
use Rattle.bk_image.proofs.HoldsLasting.{in_as}

-- the book of an id, under the name that its file has
abbrev pub books_by : Reading → Books → Books
books_by r books n = cond (is_some (r (main n.id))) (books (main n.id)) (books (main_temp n.id))

-- a file that counts is the one that its id's book is of
own_book : (r : Reading) (books : Books) (kind : Kind) (id : ℕ) → CountsAs kind r id → (k : Name) → k.id ≡ id
    → books_by r books k ≡ books (record { id = id; kind = kind })
own_book r books Main id c k is =
    ap (λ (n : ℕ). cond (is_some (r (main n))) (books (main n)) (books (main_temp n))) is
    ∙ ap (λ (b : Bool). cond b (books (main id)) (books (main_temp id))) c.0
own_book r books MainTemp id c k is =
    ap (λ (n : ℕ). cond (is_some (r (main n))) (books (main n)) (books (main_temp n))) is
    ∙ ap (λ (b : Bool). cond b (books (main id)) (books (main_temp id))) (false_from_ne_true (is_some (r (main id))) c.3)
own_book r books kind id c k is = absurd c

some_is : (o : Option (List ℕ)) → is_some o ≡ true → o ≡ Some (unwrap_or o [])
some_is None there = absurd (cc there)
some_is (Some b) there = refl

counted_there : (r : Reading) (kind : Kind) (id : ℕ) → CountsAs kind r id → IsThere r (record { id = id; kind = kind })
counted_there r Main id c = c.0
counted_there r MainTemp id c = c.0
counted_there r kind id c = absurd c

pub counts_bytes : (r : Reading) (n : Name) → Counts r n → CountsWith r n.id (bytes_in r n)
counts_bytes r n c = (n.kind, c, some_is (r n) (counted_there r n.kind n.id c))

-- one file counts for an id
one_kind : (r : Reading) (id : ℕ) (a b : Kind) → CountsAs a r id → CountsAs b r id → a ≡ b
one_kind r id a b p q = go a b p q where
  go : (a b : Kind) → CountsAs a r id → CountsAs b r id → a ≡ b
  go Main Main p q = refl
  go MainTemp MainTemp p q = refl
  go Main MainTemp p q = absurd (q.3 p.0)
  go MainTemp Main p q = absurd (p.3 q.0)
  go Main b p q = absurd q
  go MainTemp b p q = absurd q
  go a b p q = absurd p

-- Which file of r it was
pub record Was (r s : Reading) (books : Books) (n : Name) : Type 0 where
  pub m : Name
  pub counts : Counts r m
  pub id : m.id ≡ n.id
  pub bytes : bytes_in s n ≡ bytes_in r m
  pub book : books_by r books n ≡ books m

was_one : (r s : Reading) (books : Books) (n : Name) → Tidied r s → Counts s n → Was r s books n
was_one r s books n t c =
    let here = counts_bytes s n c in
    let (kind, counts, is) = t.was n.id (bytes_in s n) here in
    record {
      m = record { id = n.id; kind = kind };
      counts = counts;
      id = refl;
      bytes = sym (ap (λ (o : Option (List ℕ)). unwrap_or o []) is);
      book = own_book r books kind n.id counts n refl;
    }

is_one : (r s : Reading) (books : Books) (m : Name) → Tidied r s → Counts r m
    → (n : Name) × Counts s n × (books_by r books n ≡ books m)
is_one r s books m t c =
    let here = counts_bytes r m c in
    let (kind, counts, is) = t.is m.id (bytes_in r m) here in
    (record { id = m.id; kind = kind }, counts, own_book r books m.kind m.id c (record { id = m.id; kind = kind }) refl)

same_name : (s : Reading) (n k : Name) → n.id ≡ k.id → Counts s n → Counts s k → n ≡ k
same_name s n k is p q =
    let q_here : CountsAs k.kind s n.id = subst (λ (id : ℕ). CountsAs k.kind s id) (sym is) q in
    let kind : n.kind ≡ k.kind = one_kind s n.id n.kind k.kind p q_here in
    λ i. record { id = is i; kind = kind i }

pub tidied_recovers : (r s : Reading) (books : Books) (log : List Write) → Tidied r s → Recovers r books log
    → Recovers s (books_by r books) log
tidied_recovers r s books log t rec = record {
  reads = λ n c.
      let was = was_one r s books n t c in
      subst (λ (b : List ℕ). AreRecords b (books_by r books n)) (sym was.bytes)
      (subst (AreRecords (bytes_in r was.m)) (sym was.book) (rec.reads was.m was.counts));
  once = λ n c. let was = was_one r s books n t c in subst AreOnce (sym was.book) (rec.once was.m was.counts);
  apart = λ n k w c d here there.
      let p = was_one r s books n t c in
      let q = was_one r s books k t d in
      let same_file : p.m ≡ q.m =
      rec.apart p.m q.m w p.counts q.counts (in_as w (books_by r books n) (books p.m) p.book here)
      (in_as w (books_by r books k) (books q.m) q.book there) in
      same_name s n k (sym p.id ∙ ap (λ (x : Name). x.id) same_file ∙ q.id) c d;
  rising = rec.rising;
  from = λ w is_in.
      let (m, c, there) = rec.from w is_in in
      let (n, counts, book) = is_one r s books m t c in
      (n, counts, in_as w (books m) (books_by r books n) (sym book) there);
  all = λ n w c is_in.
      let was = was_one r s books n t c in
      rec.all was.m w was.counts (in_as w (books_by r books n) (books was.m) was.book is_in);
}

pub tidied_hints : (r s : Reading) (books : Books) → Tidied r s → HintsTrue r books → HintsTrue s (books_by r books)
tidied_hints r s books t tell n bytes c is =
    let was = was_one r s books n t c in
    let before : r (hint was.m.id) ≡ Some bytes =
    ap (λ (id : ℕ). r (hint id)) was.id ∙ sym (t.hints n.id (bytes_in s n) (counts_bytes s n c)) ∙ is in
    subst (λ (b : List ℕ). HintTrue bytes (length b) (books_by r books n)) (sym was.bytes)
    (subst (HintTrue bytes (length (bytes_in r was.m))) (sym was.book) (tell was.m bytes was.counts before))

pub tidied_sound : (image now : Image) (log : List Write) → Tidied (at image) (at now) → IsSound image log → IsSound now log
tidied_sound image now log t sound = record {
  books = books_by (at image) sound.books;
  recovers = tidied_recovers (at image) (at now) sound.books log t sound.recovers;
  hints = tidied_hints (at image) (at now) sound.books t sound.hints;
}

-- What a crash within a recovery leaves of a synced disk has the log that was there.
pub recovery_keeps_log : (t u : Told) (log : List Write) → Goes t u → IsSynced t → IsSound t.image log → (k : ℕ) → clock t ≤ k
    → k ≤ clock u → (left : Image) → MayLeave (fronts_at u k) left → IsSound left log
recovery_keeps_log t u log goes synced sound k low high left may =
    tidied_sound t.image left log (goes.each synced k low high left may) sound
