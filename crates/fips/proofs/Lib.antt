pub mod Laying  -- words laid into a digest
