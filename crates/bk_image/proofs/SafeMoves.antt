-- Files that hold a log still hold it when they are renamed, or when others come and go that don't
-- count.
use Rattle.std.proofs.Common.{◌≡◌, ℕ, ◌⊎◌, List, [], ◌∷◌, length, Some, refl, sym, subst, arith}
use Rattle.std.proofs.Common.{inl, inr}
use Rattle.std.specs.List.{AllByRecursion}
use Rattle.bk_base.specs.declared.names.Name.{Name}
use Rattle.bk_base.specs.declared.writes.Write.{Write}
use Rattle.bk_laws.specs.Hint.{Hinted, IsSoundRow}
use Rattle.bk_laws.specs.Log.{SameMap}
use Rattle.bk_laws.specs.Record.{AreRecords}
use Rattle.bk_image.specs.Readings.{Books, In, Reading, bytes_in, hint}
use Rattle.bk_image.specs.CountedFiles.{Counts}
use Rattle.bk_image.specs.RecoveredLog.{AreOnce, HintTrue, HintsTrue, Recovers, Safe}
use Rattle.bk_image.proofs.Chances.{all_records}
use Rattle.bk_image.proofs.Winners.{same_trans}

-- The file that counts now is one that counted before, perhaps under another name. Its hint is the
-- one that it had, or is true of it.
pub record Comes (r s : Reading) (books now : Books) (m n : Name) : Type 0 where
  pub was : Counts r m
  pub bytes : bytes_in s n ≡ bytes_in r m
  pub book : now n ≡ books m
  pub hints : (b : List ℕ) → s (hint n.id) ≡ Some b
      → (r (hint m.id) ≡ Some b) ⊎ HintTrue b (length (bytes_in s n)) (now n)

-- or it is empty
pub record IsBlank (s : Reading) (now : Books) (n : Name) : Type 0 where
  pub bytes : bytes_in s n ≡ []
  pub book : now n ≡ []

-- Each file that counts now was one of before or is empty, no two were one, and no write is lost.
pub record Moves (r s : Reading) (books now : Books) (from : Name → Name) : Type 0 where
  pub came : (n : Name) → Counts s n → Comes r s books now (from n) n ⊎ IsBlank s now n
  pub one : (n k : Name) → Counts s n → Counts s k → from n ≡ from k → n ≡ k
  pub stays : (m : Name) (w : Write) → Counts r m → In w (books m)
      → (n : Name) × Counts s n × In w (now n)

-- a hint of an empty file has no rows
no_rows : (rows : List Hinted) → AllByRecursion (IsSoundRow 0) rows → rows ≡ []
no_rows [] sound = refl
no_rows (r ∷ rs) sound = absurd (omega (arith, sound.0.within))

pub blank_hint : (b : List ℕ) → HintTrue b 0 []
blank_hint b covered rows good =
    let none : covered ≡ 0 = omega (arith, good.within) in
    record {
      first = [];
      later = [];
      whole = refl;
      rows_are = no_rows rows
          (subst (λ (n : ℕ). AllByRecursion (IsSoundRow n) rows) none good.sound);
      covers = none;
    }

-- the writes of a file are the book that it has now, or it has none
in_before : (r s : Reading) (books now : Books) (m n : Name) (w : Write)
    → Comes r s books now m n ⊎ IsBlank s now n
    → In w (now n) → Counts r m × In w (books m)
in_before r s books now m n w (inl comes) is_in =
    (comes.was, subst (λ (ws : List Write). In w ws) comes.book is_in)
in_before r s books now m n w (inr blank) is_in =
    absurd (subst (λ (ws : List Write). In w ws) blank.book is_in)

reads_now : (r s : Reading) (books now : Books) (m n : Name)
    → Comes r s books now m n ⊎ IsBlank s now n
    → ((k : Name) → Counts r k → AreRecords (bytes_in r k) (books k))
    → AreRecords (bytes_in s n) (now n)
reads_now r s books now m n (inl comes) reads =
    subst (λ (b : List ℕ). AreRecords b (now n)) (sym comes.bytes)
    (subst (λ (ws : List Write). AreRecords (bytes_in r m) ws) (sym comes.book) (reads m comes.was))
reads_now r s books now m n (inr blank) reads =
    subst (λ (b : List ℕ). AreRecords b (now n)) (sym blank.bytes)
    (subst (λ (ws : List Write). AreRecords [] ws) (sym blank.book) (all_records [] tt))

once_now : (r s : Reading) (books now : Books) (m n : Name)
    → Comes r s books now m n ⊎ IsBlank s now n
    → ((k : Name) → Counts r k → AreOnce (books k)) → AreOnce (now n)
once_now r s books now m n (inl comes) once = subst AreOnce (sym comes.book) (once m comes.was)
once_now r s books now m n (inr blank) once = subst AreOnce (sym blank.book) tt

hint_now : (r s : Reading) (books now : Books) (m n : Name)
    → Comes r s books now m n ⊎ IsBlank s now n
    → HintsTrue r books → (b : List ℕ) → s (hint n.id) ≡ Some b
    → HintTrue b (length (bytes_in s n)) (now n)
hint_now r s books now m n (inr blank) hints b is =
    subst (λ (c : List ℕ). HintTrue b (length c) (now n)) (sym blank.bytes)
    (subst (λ (ws : List Write). HintTrue b 0 ws) (sym blank.book) (blank_hint b))
hint_now r s books now m n (inl comes) hints b is =
    elim (comes.hints b is) [
      | inl had ↦
          subst (λ (c : List ℕ). HintTrue b (length c) (now n)) (sym comes.bytes)
          (subst (λ (ws : List Write). HintTrue b (length (bytes_in r m)) ws) (sym comes.book)
          (hints m b comes.was had))
      | inr holds ↦ holds
    ]

pub recovers_moved : (r s : Reading) (books now : Books) (from : Name → Name) (log : List Write)
    → Moves r s books now from → Recovers r books log → Recovers s now log
recovers_moved r s books now from log moves p = record {
  reads = λ n c. reads_now r s books now (from n) n (moves.came n c) p.reads;
  once = λ n c. once_now r s books now (from n) n (moves.came n c) p.once;
  apart = λ n k w c d here there.
      let first = in_before r s books now (from n) n w (moves.came n c) here in
      let second = in_before r s books now (from k) k w (moves.came k d) there in
      moves.one n k c d (p.apart (from n) (from k) w first.0 second.0 first.1 second.1);
  rising = p.rising;
  from = λ w is_in. let (m, c, there) = p.from w is_in in moves.stays m w c there;
  all = λ n w c is_in.
      let before = in_before r s books now (from n) n w (moves.came n c) is_in in
      p.all (from n) w before.0 before.1;
}

pub safe_moved : (r s : Reading) (books now : Books) (from : Name → Name) (log : List Write)
    → Moves r s books now from → Safe r books log → Safe s now log
safe_moved r s books now from log moves safe = record {
  base = safe.base;
  recovers = recovers_moved r s books now from safe.base moves safe.recovers;
  hints = λ n b c is. hint_now r s books now (from n) n (moves.came n c) safe.hints b is;
  same_map = safe.same_map;
  within = safe.within;
}

-- two readings that are equal at each name
pub safe_as : (r s : Reading) (books : Books) (log : List Write) → ((n : Name) → r n ≡ s n)
    → Safe r books log
    → Safe s books log
safe_as r s books log same safe = subst (λ (q : Reading). Safe q books log) (λ i n. same n i) safe

-- books that are equal at each name
pub safe_books : (r : Reading) (books now : Books) (log : List Write)
    → ((n : Name) → books n ≡ now n) → Safe r books log
    → Safe r now log
safe_books r books now log same safe = subst (λ (bs : Books). Safe r bs log) (λ i n. same n i) safe

-- a log of the same map that has the writes of the first
pub safe_for : (r : Reading) (books : Books) (log more : List Write) → SameMap log more
    → ((w : Write) → In w log → In w more) → Safe r books log → Safe r books more
safe_for r books log more same within safe = record {
  base = safe.base;
  recovers = safe.recovers;
  hints = safe.hints;
  same_map = same_trans safe.base log more safe.same_map same;
  within = λ w is_in. within w (safe.within w is_in);
}

-- The same files count and read as before, and each has the hint that it had, or none.
pub record SameCounted (r s : Reading) : Type 0 where
  pub counted : (n : Name) → Counts s n → Counts r n
  pub counts : (n : Name) → Counts r n → Counts s n
  pub bytes : (n : Name) → Counts r n → bytes_in s n ≡ bytes_in r n
  pub hints : (n : Name) (b : List ℕ) → Counts r n → s (hint n.id) ≡ Some b → r (hint n.id) ≡ Some b

pub safe_frame : (r s : Reading) (books : Books) (log : List Write) → SameCounted r s
    → Safe r books log → Safe s books log
safe_frame r s books log same safe =
    safe_moved r s books books (λ n. n) log
    (record {
      came = λ n c. let was = same.counted n c in
          inl (record {
            was = was;
            bytes = same.bytes n was;
            book = refl;
            hints =
                λ b is. inl (same.hints n b was is);
          });
      one = λ n k c d is. is;
      stays = λ m w c is_in. (m, same.counts m c, is_in);
    }) safe
