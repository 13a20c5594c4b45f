use Rattle.ca_pattern_runs.proofs.OneDrawing.{one_drawn, one_drawn_caption, drawn_or_fault, one_draw_fault}
use Rattle.ca_pattern_runs.proofs.drawing_laws.one_kind_of_drawing.Goals as goal

pub returns-clause-one_picture : goal.returns-clause-one_picture
returns-clause-one_picture c = λ bytes tables n request one two h k. one_drawn bytes tables n 0 request one two h k

pub returns-clause-one_caption : goal.returns-clause-one_caption
returns-clause-one_caption c = λ bytes tables n request one two h k. one_drawn_caption bytes tables n 0 request one two h k

pub returns-clause-picture_or_fault : goal.returns-clause-picture_or_fault
returns-clause-picture_or_fault c = λ bytes tables n work request text told m w h k. drawn_or_fault bytes tables n work request text told m w h k

pub returns-clause-one_fault : goal.returns-clause-one_fault
returns-clause-one_fault c = λ bytes tables n work request one two m w o v h k. one_draw_fault bytes tables n work request one two m w o v h k
