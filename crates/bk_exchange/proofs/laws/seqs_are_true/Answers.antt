use Rattle.bk_exchange.proofs.LiveReplies.{put_next, synced_last}
use Rattle.bk_exchange.proofs.laws.seqs_are_true.Goals as goal

pub returns-clause-put : goal.returns-clause-put
returns-clause-put c = λ d p x key value n. put_next d p x key value n

pub returns-clause-synced : goal.returns-clause-synced
returns-clause-synced c = λ d p x n. synced_last d p x n
