pub mod Sha256  -- FIPS 180-4, as it is written
pub mod Lengths  -- how long a digest is, and a padded message
pub mod Vectors  -- worked examples
