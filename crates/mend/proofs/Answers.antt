-- What each mending comes to.
use mathlib.Core.Path.{refl}
use lib.ListN.{length}
use borrow.Author.Tests.{lt-ltb, le-ltb}
use Rattle.mend.specs.Mend.{changes}
use Rattle.mend.specs.Mended.{RefusedIsAsFound}

pub refused_is_as_found : RefusedIsAsFound
refused_is_as_found image list = (
  λ short. rw (lt-ltb (length image) 0x89 short) refl,
  λ long less. rw (le-ltb (length image) 0x89 long, lt-ltb (length list) (length (changes image)) less) refl,
  λ long enough. rw (le-ltb (length image) 0x89 long, le-ltb (length list) (length (changes image)) enough) refl,
)
