use Rattle.eh_link.proofs.Standing.{law_of_images, law_of_sizes, law_of_code, law_of_index, law_of_data}
use Rattle.eh_link.proofs.parts_stand_at_their_addresses.Goals as goal

pub returns : goal.returns
returns c = record { images = law_of_images; sizes = law_of_sizes; code = law_of_code; index = law_of_index; init = law_of_data }
