use Rattle.exam_http.proofs.Pages.{viewed}
use Rattle.exam_http.proofs.answering.own_page.Goals as goal

pub unwrap-own-requires : goal.unwrap-own-requires
unwrap-own-requires g c = viewed c.args.page _ _ c.in_ok-viewed.ensures.ok c.requires
