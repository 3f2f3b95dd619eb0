use Rattle.exam_request.proofs.Chosen.{own_choice}
use Rattle.exam_request.proofs.laws.choices_are_of_who_shows_the_code.Goals as goal

pub returns : goal.returns
returns c request named = own_choice request named
