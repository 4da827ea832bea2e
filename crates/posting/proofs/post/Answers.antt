-- `posting::post` meets its contract.
-- Assumes nothing.
use Rattle.posting.proofs.Laws.{keeps_posted, standing_posted}
use Rattle.posting.proofs.post.Goals as goal

pub returns : goal.returns
returns c =
    let a = c.args in
    record {
      is = λ mail size n P K h O x bytes long short. (
        keeps_posted a.counts.now a.places.now mail size n P K a.peer a.p a.number a.len bytes h O x long short,
        standing_posted a.counts.now a.places.now mail size n P K a.peer a.p a.number a.len bytes h O x long short,
      );
    }
