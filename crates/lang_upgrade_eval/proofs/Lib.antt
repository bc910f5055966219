pub mod LevelFound
