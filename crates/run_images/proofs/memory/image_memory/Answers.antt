use Rattle.run_images.proofs.Building.{can_build, built_of}
use Rattle.run_images.proofs.memory.image_memory.Goals as goal

pub build-requires : goal.build-requires
build-requires c =
    let sound = c.segments.ensures.sound in
    rw c.deref.ensures.value
    (can_build c.in-Ok.places.items c.args.image.now.segments (rw c.segments.ensures.segments at c.in-Ok.ensures) sound.rise sound.memory)

pub returns-in-Ok : goal.returns-in-Ok
returns-in-Ok c =
    let same = rw c.segments.ensures.segments at c.in-Ok.ensures in
    rw (c.deref.ensures.value, built_of c.in-Ok.places.items c.args.image.now.segments same) at c.build.ensures.memory
