-- A directory holds one log, and the empty one where no file counts.
use Rattle.std.proofs.Common.{◌≡◌, List, [], subst}
use Rattle.bk_base.specs.declared.names.Name.{Name}
use Rattle.bk_base.specs.declared.writes.Write.{Write}
use Rattle.bk_disk.specs.Told.{Image, at}
use Rattle.bk_record.proofs.FileRecords.{one_list}
use Rattle.bk_image.specs.Readings.{Books, In, Reading, bytes_in}
use Rattle.bk_image.specs.CountedFiles.{Counts}
use Rattle.bk_image.specs.RecoveredLog.{Recovers}
use Rattle.bk_image.specs.SoundDirectory.{IsSound}
use Rattle.bk_image.proofs.Logs.{same_writes}

-- the books agree wherever a file counts
pub one_book : (r : Reading) (books other : Books) (log more : List Write) (n : Name) → Counts r n
    → Recovers r books log → Recovers r other more → books n ≡ other n
one_book r books other log more n counts p q =
    one_list (books n) (other n) (bytes_in r n) (p.reads n counts) (q.reads n counts)

within : (r : Reading) (books other : Books) (log more : List Write) → Recovers r books log
    → Recovers r other more
    → (w : Write) → In w log → In w more
within r books other log more p q w is_in =
    let (n, counts, there) = p.from w is_in in
    q.all n w counts
    (subst (λ (ws : List Write). In w ws) (one_book r books other log more n counts p q) there)

pub one_log : (r : Reading) (books other : Books) (log more : List Write) → Recovers r books log
    → Recovers r other more
    → log ≡ more
one_log r books other log more p q =
    same_writes 0 0 log more p.rising q.rising (within r books other log more p q)
    (within r other books more log q p)

pub none_sound : (image : Image) → ((n : Name) → Counts (at image) n → ⊥) → IsSound image []
none_sound image none = record {
  books = λ n. [];
  recovers = record {
    reads = λ n c. absurd (none n c);
    once = λ n c. tt;
    apart = λ n m w c d p q. absurd p;
    rising = tt;
    from = λ w is_in. absurd is_in;
    all = λ n w c is_in. is_in;
  };
  hints = λ n bytes c is. absurd (none n c);
}
