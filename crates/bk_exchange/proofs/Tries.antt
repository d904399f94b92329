-- What was tried, as a session goes on.
use Rattle.std.proofs.Common.{◌≡◌, ◌∙◌, List, [], ◌∷◌, ◌++◌, refl, ap, inl, inr}
use Rattle.std.proofs.lemmas.List.{append-nil, append_assoc}
use Rattle.std.proofs.lemmas.List.Concat.{flat_map-append}
use Rattle.bk_base.specs.declared.requests.Reply.TheVariants.{Disk}
use Rattle.bk_base.specs.declared.writes.Write.{Write}
use Rattle.bk_exchange.specs.Exchanges.{Exchange, moment_of}
use Rattle.bk_exchange.specs.OneThread.{MayBeTried}
use Rattle.bk_exchange.specs.Writes.{told_by, told_writes, write_asked}

pub told-append : (xs ys : List Exchange)
    → told_writes (xs ++ ys) ≡ told_writes xs ++ told_writes ys
told-append xs ys =
    flat_map-append (λ (x : Exchange). told_by x.request (moment_of x.now) x.replies) xs ys

told_on : (xs : List Exchange) (x : Exchange) → told_writes xs ≡ []
    → told_by x.request (moment_of x.now) x.replies ≡ [] → told_writes (xs ++ x ∷ []) ≡ []
told_on xs x none nothing =
    told-append xs (x ∷ []) ∙ ap (λ (ws : List Write). ws ++ told_writes (x ∷ [])) none
    ∙ append-nil (told_by x.request (moment_of x.now) x.replies) ∙ nothing

-- the next exchange told no write, and left what was tried
pub tried_kept : (log first tried : List Write) (xs : List Exchange) (x : Exchange)
    → MayBeTried log first xs tried
    → told_by x.request (moment_of x.now) x.replies ≡ [] → MayBeTried log first (xs ++ x ∷ []) tried
tried_kept log first tried xs x (inl none) nothing = inl none
tried_kept log first tried xs x (inr (inl same)) nothing = inr (inl
    (same.0, told_on xs x same.1 nothing))
tried_kept log first tried xs x (inr (inr was)) nothing = inr (inr (record {
  before = was.before;
  refused = was.refused;
  since = was.since ++ x ∷ [];
  whole = ap (λ (ys : List Exchange). ys ++ x ∷ []) was.whole
      ∙ append_assoc was.before (was.refused ∷ was.since) (x ∷ []);
  disk = was.disk;
  write = was.write;
  nothing = told_on was.since x was.nothing nothing;
}))

-- its write was tried
pub tried_new : (log first : List Write) (xs : List Exchange) (x : Exchange) → x.replies ≡ Disk ∷ []
    → MayBeTried log first (xs ++ x ∷ []) (write_asked x.request (moment_of x.now) log)
tried_new log first xs x disk = inr (inr (record {
  before = xs;
  refused = x;
  since = [];
  whole = refl;
  disk = disk;
  write = refl;
  nothing = refl;
}))
