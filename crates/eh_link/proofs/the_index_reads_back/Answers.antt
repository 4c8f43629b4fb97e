use Rattle.eh_link.proofs.Images.{law_of_image_rows}
use Rattle.eh_link.proofs.Reading.{law_of_order, law_of_rows, law_of_starts, law_of_reading}
use Rattle.eh_link.proofs.the_index_reads_back.Goals as goal

pub returns : goal.returns
returns c = record { ascend = law_of_order; kept = law_of_rows; ties = law_of_starts; read = law_of_reading; images = law_of_image_rows }
