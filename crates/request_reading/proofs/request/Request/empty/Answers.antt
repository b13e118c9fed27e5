use Rattle.request_reading.proofs.Empty.{empties}
use Rattle.request_reading.proofs.request.Request.empty.Goals as goal

pub invariant_of-result : goal.invariant_of-result
invariant_of-result c = empties _ _ _ _ _ c.in_ok-get.ensures c.in_ok-post.ensures c.in_ok-cookie.ensures c.in_ok-request.ensures c.in_ok-server.ensures
